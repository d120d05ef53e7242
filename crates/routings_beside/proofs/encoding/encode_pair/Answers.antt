use Rattle.std.proofs.Common.{◌≡◌, ◌+◌, ◌<◌, ◌++◌, ◌∙◌, ℕ, Bool, List, arith, drop, length, subst, sym, take, true}
use Rattle.std.proofs.lemmas.Bool.{and_from, and_parts}
use Rattle.term_store.specs.Reading.{Reads}
use Rattle.term_store.specs.Terms.{Agrees, Reading, at, value_of}
use Rattle.terms_beside.specs.Beside.{ReadBeside, exactly, place_of}
use Rattle.routings_beside.specs.declared.encoding.PairTerms.{PairTerms}
use Rattle.routings_beside.specs.Pairs.{StandBeside, left_values, own_bits, right_values, width}
use Rattle.routings_beside.proofs.OneSide.{side_among, side_fates, side_stands}
use Rattle.routings_beside.proofs.encoding.encode_pair.Goals as goal

pub returns : goal.returns
returns c =
    let left = c.args.left.now in
    let right = c.args.right.now in
    let ask = c.args.ask.now in
    let fates = c.args.fates.now in
    let one = c.in_ok-one.one in
    let other = c.in_ok-other.other in
    let made = c.in_ok-made.made in
    let own = c.in_ok-one.ensures in
    let too = c.in_ok-other.ensures in
    let wide : one.terms.vars ≡ width left ask = own.vars in
    let wide_too : other.terms.vars ≡ width right ask = too.vars in
    let known = c.requires.known in
    let some : 0 < length left.files = let h = known.one in omega (arith, h) in
    let some_too : 0 < length right.files = let h = known.other in omega (arith, h) in
    let e : PairTerms = record {
      terms = made.terms;
      root = made.root;
      split = c.vars-split.result;
      one = one.side;
      other = other.side;
      places = made.places;
    } in
    let stand : (xs ys : List Bool) (w : Reading) → Reads w made.terms →
    ReadBeside one.terms other.terms made.places xs ys w →
    StandBeside left right ask fates e xs ys w = λ xs ys w reads beside.
    let there : ℕ → Bool = λ i. at w (place_of made.places i) in
    let both : at w made.root ≡ true → (at w one.root ≡ true) × (there other.root.0 ≡ true) = λ holds.
    and_parts _ _ (sym (c.in_ok-made.ensures.root w reads) ∙ holds) in
    record {
      one = side_stands left ask ask.left fates one own xs w.node beside.first;
      other = side_stands right ask ask.right fates other too ys there beside.second;
      fates_of_one = λ holds. side_fates left ask ask.left fates one own xs w.node beside.first (both holds).0;
      fates_of_other = λ holds. side_fates right ask ask.right fates other too ys there beside.second (both holds).1;
    } in
    record {
      root = c.in_ok-made.ensures.within;
      vars = c.in_ok-made.ensures.vars ∙ (λ i. wide i + wide_too i);
      split = c.vars-split.ensures.vars ∙ wide;
      sound = λ valuation holds.
          let both = and_parts _ _ (sym (c.in_ok-made.ensures.values valuation) ∙ holds) in
          let first : value_of one.terms.nodes (left_values left ask valuation) one.root.0 ≡ true =
          subst (λ (n : ℕ). value_of one.terms.nodes (take n valuation) one.root.0 ≡ true) wide both.0 in
          let rest = drop one.terms.vars valuation in
          let part : value_of other.terms.nodes (take (width right ask) rest) other.root.0 ≡ true =
          subst (λ (n : ℕ). value_of other.terms.nodes (take n (drop one.terms.vars valuation)) other.root.0 ≡ true)
          wide_too both.1 in
          let second : value_of other.terms.nodes (right_values left right ask valuation) other.root.0 ≡ true =
          subst (λ (n : ℕ). value_of other.terms.nodes (take (width right ask) (drop n valuation)) other.root.0 ≡ true)
          wide part in (
            own.sound some (left_values left ask valuation) first,
            too.sound some_too (right_values left right ask valuation) second,
          );
      complete = λ world beside around about side side_too.
          let xs = own_bits left ask world around in
          let ys = own_bits right ask beside about in
          (λ i. value_of made.terms.nodes (exactly (sym wide i) xs ++ exactly (sym wide_too i) ys) made.root.0)
          ∙ c.in_ok-made.ensures.given xs ys
          ∙ and_from _ _ (own.complete world around side) (too.complete beside about side_too);
      one_stands = side_among left ask ask.left fates one _ own c.in_ok-made.ensures.larger;
      other_stands = let long = c.in_ok-made.ensures.length in
          side_among right ask ask.right fates other _ too (omega (arith, long));
      places = c.in_ok-made.ensures.places;
      values = λ valuation w reading agrees.
          let beside = c.in_ok-made.ensures.beside w reading valuation agrees in
          let part : ReadBeside one.terms other.terms made.places (left_values left ask valuation)
          (take other.terms.vars (drop (width left ask) valuation)) w =
          subst (λ (n : ℕ). ReadBeside one.terms other.terms made.places (take n valuation)
          (take other.terms.vars (drop n valuation)) w) wide beside in
          stand (left_values left ask valuation) (right_values left right ask valuation) w reading
          (subst (λ (n : ℕ). ReadBeside one.terms other.terms made.places (left_values left ask valuation)
          (take n (drop (width left ask) valuation)) w) wide_too part);
      given = λ xs ys w reading agrees.
          let part : Agrees w (exactly one.terms.vars xs ++ exactly (width right ask) ys) made.terms.vars =
          subst (λ (n : ℕ). Agrees w (exactly n xs ++ exactly (width right ask) ys) made.terms.vars) (sym wide)
          agrees in
          stand xs ys w reading (c.in_ok-made.ensures.besides w reading xs ys
          (subst (λ (n : ℕ). Agrees w (exactly one.terms.vars xs ++ exactly n ys) made.terms.vars) (sym wide_too)
          part));
      one_shapes = own.shapes;
      other_shapes = too.shapes;
    }

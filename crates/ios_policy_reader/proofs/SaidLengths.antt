-- A line of a prefix list says lengths in their order: its prefix's own, the least, the greatest, and 32.
use Rattle.std.proofs.Common.{◌≡◌, ℕ, ◌+◌, ◌≤◌, Bool, true, false, ◌&&◌, ◌||◌, not, List, [], ◌∷◌, ◌++◌, min, nat_le}
use Rattle.std.proofs.Common.{Option, Some, None, Result, Ok, Err, refl, ap, sym, subst, ◌∙◌, ◌⊎◌, inl, inr, arith}
use Rattle.std.proofs.Common.{drop, take}
use Rattle.std.specs.Prelude.{⊤, ◌==◌, option_map, if◌then◌else◌}
use Rattle.std.specs.List.{AllByRecursion, list_all}
use Rattle.std.specs.Option.{option_map_or, option_or}
use Rattle.std.proofs.lemmas.Bool.{and_from, and_parts, eqb-true, le-leb, leb-true}
use Rattle.std.proofs.lemmas.List.Folds.{list_any-append}
use Rattle.std.proofs.lemmas.List.Sums.{fold-append}
use Rattle.std.proofs.lemmas.Option.{option_and_then_some}
use Rattle.mw_text.specs.declared.address.Prefix.{Prefix as WrittenPrefix}
use Rattle.mw_text.specs.Address.{prefix_at}
use Rattle.mw_text.specs.Digits.{addr_of, cut_at, number_of, prefix_of_text}
use Rattle.ios_ast.specs.Limits.{has_lengths_in_order}
use Rattle.ios_policy_reader.specs.declared.cause.Cause.{Cause}
use Rattle.ios_policy_reader.specs.declared.cause.Cause.TheVariants.{BadWord}
use Rattle.ios_policy_reader.specs.declared.edges.Edge.{Edge}
use Rattle.ios_policy_reader.specs.declared.edges.Takes.{Takes}
use Rattle.ios_policy_reader.specs.declared.edges.Takes.TheVariants.{End, Key, Named, Any, Range, AnyName, AnyPrefix}
use Rattle.ios_policy_reader.specs.declared.edges.Takes.TheVariants.{LengthFrom}
use Rattle.ios_policy_reader.specs.declared.edges.Way.{Way}
use Rattle.ios_policy_reader.specs.declared.heads.Found.{Found}
use Rattle.ios_policy_reader.specs.declared.heads.Row.{Row}
use Rattle.ios_policy_reader.specs.declared.heads.Row.TheVariants.{PrefixList}
use Rattle.ios_policy_reader.specs.declared.said.Said.{Said}
use Rattle.ios_policy_reader.specs.declared.said.Tag.{Tag}
use Rattle.ios_policy_reader.specs.declared.said.Tag.TheVariants.{High, Low, Prefix as PrefixTag}
use Rattle.ios_policy_reader.specs.declared.said.Value.{Value}
use Rattle.ios_policy_reader.specs.declared.said.Value.TheVariants.{Nothing, Number, Address, Length, Prefix, Pattern}
use Rattle.ios_policy_reader.specs.declared.said.Value.TheVariants.{Ports, Word}
use Rattle.ios_policy_reader.specs.declared.tables.TheConstants.{PREFIX_LIST}
use Rattle.ios_policy_reader.specs.Edges.{goes, leaves, may_end, read_from, said_back, said_by, way_of}
use Rattle.ios_policy_reader.specs.Entries.{prefix_entry, widest}
use Rattle.ios_policy_reader.specs.Heads.{edges_of, said_in, state_of, tail_of}
use Rattle.ios_policy_reader.specs.Names.{is_name}
use Rattle.ios_policy_reader.specs.Said.{has_said, least_length, length_more, length_said, number_in, number_more}
use Rattle.ios_policy_reader.specs.Said.{number_under, prefix_more, prefix_said, tag_number}
use Rattle.ios_policy_reader.specs.Words.{is_key, number_from}
use Rattle.ios_policy_reader.proofs.Numbers.{number_within, written}

-- the entry that they say has its lengths in order, whatever its line and its number
abbrev pub HasLengths : List Said → Type 0
HasLengths said = has_lengths_in_order (prefix_entry 0 0 said) ≡ true

-- ---- what was said, with a word more

number_next : (tag : Tag) (said : List Said) (s : Said) (d : ℕ) →
    number_under tag (said ++ s ∷ []) d ≡ number_more tag (number_under tag said d) s
number_next tag said s d = fold-append (number_more tag) d said (s ∷ [])

length_next : (said : List Said) (s : Said) → length_said (said ++ s ∷ []) ≡ length_more (length_said said) s
length_next said s = fold-append length_more 0 said (s ∷ [])

prefix_next : (said : List Said) (s : Said) → prefix_said (said ++ s ∷ []) ≡ prefix_more (prefix_said said) s
prefix_next said s = fold-append prefix_more (record { addr = record { 0 = 0 }; len = 0 }) said (s ∷ [])

has_next : (tag : Tag) (said : List Said) (s : Said) →
    has_said tag (said ++ s ∷ []) ≡ (has_said tag said || ((tag_number s.tag == tag_number tag) || false))
has_next tag said s = list_any-append (λ t. tag_number t.tag == tag_number tag) said (s ∷ [])

-- what nothing said is as it was
unsaid : (tag : Tag) (said : List Said) (d : ℕ) → has_said tag said ≡ false → number_under tag said d ≡ d
unsaid tag [] d none = refl
unsaid tag (s ∷ rest) d none = by (tag_number s.tag == tag_number tag) none (unsaid tag rest d) refl where
  by : (b : Bool) → (b || has_said tag rest) ≡ false → (has_said tag rest ≡ false → number_under tag rest d ≡ d)
      → (tag_number s.tag == tag_number tag) ≡ b → number_under tag (s ∷ rest) d ≡ d
  by true wrong deeper is = absurd cc
  by false later deeper is = rw is (deeper later)

-- a number that was said is one, whichever else would stand there
said_once : (tag : Tag) (said : List Said) (d e : ℕ) →
    (number_under tag said d ≡ d) ⊎ (number_under tag said d ≡ number_under tag said e)
said_once tag [] d e = inl refl
said_once tag (s ∷ rest) d e = by (tag_number s.tag == tag_number tag) s.value refl refl (said_once tag rest d e) where
  by : (b : Bool) (v : Value) → (tag_number s.tag == tag_number tag) ≡ b → s.value ≡ v →
      (number_under tag rest d ≡ d) ⊎ (number_under tag rest d ≡ number_under tag rest e) →
      (number_under tag (s ∷ rest) d ≡ d) ⊎ (number_under tag (s ∷ rest) d ≡ number_under tag (s ∷ rest) e)
  by false v is value later = rw is later
  by true (Number n) is value later = inr (rw (is, value) refl)
  by true Nothing is value later = rw (is, value) later
  by true (Address a) is value later = rw (is, value) later
  by true (Length n) is value later = rw (is, value) later
  by true (Prefix p) is value later = rw (is, value) later
  by true (Pattern p) is value later = rw (is, value) later
  by true (Ports low high) is value later = rw (is, value) later
  by true (Word at) is value later = rw (is, value) later

-- ---- the lengths so far

abbrev own : List Said → ℕ
own said = (prefix_said said).len

abbrev low : List Said → ℕ
low said = number_under Low said (own said)

abbrev high : List Said → ℕ
high said = number_under High said (widest said)

-- in a state of the table the lengths are in order, and those that come later were not said yet
record Stands (state : ℕ) (said : List Said) : Type 0 where
  one : length_said said ≡ own said
  least : own said ≤ low said
  between : low said ≤ high said
  most : high said ≤ 32
  no_low : nat_le state 6 ≡ true → has_said Low said ≡ false
  no_high : nat_le state 8 ≡ true → has_said High said ≡ false

nothing_said : Stands 0 []
nothing_said = record {
  one = refl;
  least = omega arith;
  between = omega arith;
  most = omega arith;
  no_low = λ _. refl;
  no_high = λ _. refl;
}

-- so the entry has its lengths in order
lengths_of : (state : ℕ) (said : List Said) → Stands state said → HasLengths said
lengths_of state said stands =
    let least : own said ≤ min (low said) 255 = omega (arith, stands.least, stands.between, stands.most) in
    let between : min (low said) 255 ≤ min (high said) 255 = omega (arith, stands.between) in
    let most : min (high said) 255 ≤ 32 = omega (arith, stands.most) in
    and_from (nat_le (own said) (min (low said) 255))
    (nat_le (min (low said) 255) (min (high said) 255) && nat_le (min (high said) 255) 32) (le-leb _ _ least)
    (and_from (nat_le (min (low said) 255) (min (high said) 255)) (nat_le (min (high said) 255) 32)
    (le-leb _ _ between) (le-leb _ _ most))

-- ---- words that say no length

abbrev is_prefix : Value → Bool
is_prefix (Prefix p) = true
is_prefix _ = false

-- a tag that is neither that of the least nor of the greatest length
abbrev is_other : Tag → Bool
is_other tag = not (tag_number tag == tag_number Low) && not (tag_number tag == tag_number High)

same_length : (n : ℕ) (tag : Tag) (v : Value) → is_prefix v ≡ false →
    length_more n (record { tag = tag; value = v }) ≡ n
same_length n tag (Prefix p) none = absurd cc
same_length n tag _ none = refl

same_prefix : (p : WrittenPrefix) (tag : Tag) (v : Value) → is_prefix v ≡ false →
    prefix_more p (record { tag = tag; value = v }) ≡ p
same_prefix p tag (Prefix q) none = absurd cc
same_prefix p tag _ none = refl

negated : (b : Bool) → not b ≡ true → b ≡ false
negated true denied = sym denied
negated false denied = refl

-- the facts that were said are as they were
record Same (said next : List Said) : Type 0 where
  prefix : own next ≡ own said
  length : length_said next ≡ length_said said
  of_low : (d : ℕ) → number_under Low next d ≡ number_under Low said d
  of_high : (d : ℕ) → number_under High next d ≡ number_under High said d
  has_low : has_said Low next ≡ has_said Low said
  has_high : has_said High next ≡ has_said High said

or_nothing : (a b : Bool) → b ≡ false → (a || (b || false)) ≡ a
or_nothing true b none = refl
or_nothing false b none = rw none refl

-- where another word is the last
other_same : (said : List Said) (tag : Tag) (v : Value) → is_other tag ≡ true → is_prefix v ≡ false →
    Same said (said ++ record { tag = tag; value = v } ∷ [])
other_same said tag v other none =
    let s : Said = record { tag = tag; value = v } in
    let both = and_parts (not (tag_number tag == tag_number Low)) (not (tag_number tag == tag_number High)) other in
    let not_low = negated (tag_number tag == tag_number Low) both.0 in
    let not_high = negated (tag_number tag == tag_number High) both.1 in
    record {
      prefix = ap (λ p. p.len) (prefix_next said s ∙ same_prefix (prefix_said said) tag v none);
      length = length_next said s ∙ same_length (length_said said) tag v none;
      of_low = λ d. number_next Low said s d ∙ ap (λ b. if b then number_in (number_under Low said d) v else
          number_under Low said d) not_low;
      of_high = λ d. number_next High said s d ∙ ap (λ b. if b then number_in (number_under High said d) v else
          number_under High said d) not_high;
      has_low = has_next Low said s ∙ or_nothing (has_said Low said) (tag_number tag == tag_number Low) not_low;
      has_high = has_next High said s ∙ or_nothing (has_said High said) (tag_number tag == tag_number High) not_high;
    }

-- the lengths stand in a later state too
still : (from to : ℕ) (said next : List Said) → from ≤ to → Same said next → Stands from said → Stands to next
still from to said next later same stands =
    let lows : low next ≡ low said = same.of_low (own next) ∙ ap (number_under Low said) same.prefix in
    let wide : widest next ≡ widest said = ap (λ b. if b then 32 else own next) same.has_low
    ∙ ap (λ n. if has_said Low said then 32 else n) same.prefix in
    let highs : high next ≡ high said = same.of_high (widest next) ∙ ap (number_under High said) wide in
    record {
      one = same.length ∙ stands.one ∙ sym same.prefix;
      least = omega (arith, same.prefix, lows, stands.least);
      between = omega (arith, lows, highs, stands.between);
      most = omega (arith, highs, stands.most);
      no_low = λ small. same.has_low ∙ stands.no_low (le-leb from 6 (omega (arith, leb-true to 6 small, later)));
      no_high = λ small. same.has_high ∙ stands.no_high (le-leb from 8 (omega (arith, leb-true to 8 small, later)));
    }

-- ---- words that say lengths

-- after the prefix
with_prefix : (said : List Said) (p : WrittenPrefix) → p.len ≤ 32 → Stands 4 said →
    Stands 5 (said ++ record { tag = PrefixTag; value = Prefix p } ∷ [])
with_prefix said p short stands =
    let s : Said = record { tag = PrefixTag; value = Prefix p } in
    let next : List Said = said ++ s ∷ [] in
    let no_low = stands.no_low refl in
    let no_high = stands.no_high refl in
    let owns : own next ≡ p.len = ap (λ q. q.len) (prefix_next said s) in
    let has_low : has_said Low next ≡ false = has_next Low said s ∙ or_nothing (has_said Low said) false refl
    ∙ no_low in
    let has_high : has_said High next ≡ false = has_next High said s ∙ or_nothing (has_said High said) false refl
    ∙ no_high in
    let lows : low next ≡ p.len = number_next Low said s (own next) ∙ unsaid Low said (own next) no_low ∙ owns in
    let wide : widest next ≡ p.len = ap (λ b. if b then 32 else own next) has_low ∙ owns in
    let highs : high next ≡ p.len = number_next High said s (widest next) ∙ unsaid High said (widest next) no_high
    ∙ wide in
    record {
      one = length_next said s ∙ sym owns;
      least = omega (arith, owns, lows);
      between = omega (arith, lows, highs);
      most = omega (arith, highs, short);
      no_low = λ small. has_low;
      no_high = λ small. has_high;
    }

-- after the least length
with_low : (said : List Said) (n : ℕ) → least_length said ≤ n → n ≤ 32 → Stands 6 said →
    Stands 7 (said ++ record { tag = Low; value = Number n } ∷ [])
with_low said n from to stands =
    let s : Said = record { tag = Low; value = Number n } in
    let next : List Said = said ++ s ∷ [] in
    let no_low = stands.no_low refl in
    let no_high = stands.no_high refl in
    let owns : own next ≡ own said = ap (λ q. q.len) (prefix_next said s) in
    let has_low : has_said Low next ≡ true = has_next Low said s ∙ ap (λ b. b || (true || false)) no_low in
    let has_high : has_said High next ≡ false = has_next High said s ∙ or_nothing (has_said High said) false refl
    ∙ no_high in
    let lows : low next ≡ n = number_next Low said s (own next) in
    let wide : widest next ≡ 32 = ap (λ b. if b then 32 else own next) has_low in
    let highs : high next ≡ 32 = number_next High said s (widest next) ∙ unsaid High said (widest next) no_high
    ∙ wide in
    record {
      one = length_next said s ∙ stands.one ∙ sym owns;
      least =
          omega (
            arith,
            owns,
            lows,
            from,
            stands.one,
            unsaid Low said 0 no_low,
            stands.least,
            stands.between,
            stands.most,
          );
      between = omega (arith, lows, highs, to);
      most = omega (arith, highs);
      no_low = λ small. absurd cc;
      no_high = λ small. has_high;
    }

-- after the greatest length
with_high : (said : List Said) (n : ℕ) → least_length said ≤ n → n ≤ 32 → Stands 8 said →
    Stands 10 (said ++ record { tag = High; value = Number n } ∷ [])
with_high said n from to stands =
    let s : Said = record { tag = High; value = Number n } in
    let next : List Said = said ++ s ∷ [] in
    let owns : own next ≡ own said = ap (λ q. q.len) (prefix_next said s) in
    let lows : low next ≡ low said = number_next Low said s (own next) ∙ ap (number_under Low said) owns in
    let highs : high next ≡ n = number_next High said s (widest next) in
    record {
      one = length_next said s ∙ stands.one ∙ sym owns;
      least = omega (arith, owns, lows, stands.least);
      between = omega (arith, lows, highs, above (said_once Low said (own said) 0));
      most = omega (arith, highs, to);
      no_low = λ small. absurd cc;
      no_high = λ small. absurd cc;
    }
  where
    above : (low said ≡ own said) ⊎ (low said ≡ number_under Low said 0) → low said ≤ n
    above (inl plain) = omega (arith, plain, from, stands.one, stands.least, stands.between, stands.most)
    above (inr once) = omega (arith, once, from, stands.between, stands.most)

-- ---- the words of the table

-- such words say no prefix
abbrev is_plain : Takes → Bool
is_plain End = true
is_plain (Key key) = true
is_plain (Named key n) = true
is_plain Any = true
is_plain (Range low high) = true
is_plain AnyName = true
is_plain _ = false

plain_says : (takes : Takes) (said : List Said) (at : ℕ) (word : List ℕ) (v : Value) → is_plain takes ≡ true →
    said_by takes said at word ≡ Some v → is_prefix v ≡ false
unfolding said_by
plain_says takes said at word v = by takes where
  is_value : (w : Value) → is_prefix w ≡ false → Some w ≡ Some v → is_prefix v ≡ false
  is_value w none is = let same : w ≡ v = cc in ap is_prefix (sym same) ∙ none

  where_taken : (w : Value) → is_prefix w ≡ false → (taken : Bool) → (if taken then Some w else None) ≡ Some v →
      is_prefix v ≡ false
  where_taken w none true is = is_value w none is
  where_taken w none false is = absurd cc

  of_number : (o : Option ℕ) → option_map (λ n. Number n) o ≡ Some v → is_prefix v ≡ false
  of_number None is = absurd cc
  of_number (Some n) is = is_value (Number n) refl is

  by : (takes : Takes) → is_plain takes ≡ true → said_by takes said at word ≡ Some v → is_prefix v ≡ false
  by End plain is = absurd cc
  by (Key key) plain is = where_taken Nothing refl (is_key key word) is
  by (Named key n) plain is = where_taken (Number n) refl (is_key key word) is
  by Any plain is = is_value (Word at) refl is
  by (Range low high) plain is = of_number (number_from low high word) is
  by AnyName plain is = where_taken (Word at) refl (is_name word) is
  by _ plain is = absurd cc

-- the lengths stand after a word along the edge, where they stood before it
abbrev StepKept : Edge → Type 0
StepKept edge =
    (said : List Said) (at : ℕ) (word : List ℕ) (v : Value) → Stands edge.0 said → said_by edge.1 said at word ≡ Some v
    → Stands edge.3 (said ++ record { tag = edge.2; value = v } ∷ [])

-- an edge that leads on and whose words say no length
abbrev is_quiet : Edge → Bool
is_quiet edge = nat_le edge.0 edge.3 && (is_other edge.2 && is_plain edge.1)

quiet_kept : (edge : Edge) → is_quiet edge ≡ true → StepKept edge
quiet_kept edge quiet said at word v stands is =
    let order = and_parts (nat_le edge.0 edge.3) (is_other edge.2 && is_plain edge.1) quiet in
    let kinds = and_parts (is_other edge.2) (is_plain edge.1) order.1 in
    still edge.0 edge.3 said (said ++ record { tag = edge.2; value = v } ∷ []) (leb-true _ _ order.0)
    (other_same said edge.2 v kinds.0 (plain_says edge.1 said at word v kinds.1 is)) stands

-- a prefix as text is no longer than an address
short_prefix : (word : List ℕ) (p : WrittenPrefix) → prefix_of_text word ≡ Some p → p.len ≤ 32
short_prefix word p is =
    option_and_then_some _ (cut_at 47 word) p is (λ cut _ one.
    option_and_then_some _ (addr_of cut.0) p one (λ addr _ two.
    option_and_then_some _ (number_of 32 cut.1) p two (λ len length three.
    let same : prefix_at addr len ≡ p = cc in
    subst (λ (q : WrittenPrefix). q.len ≤ 32) same (written 32 len cut.1 length))))

prefix_step : StepKept (record { 0 = 4; 1 = AnyPrefix; 2 = PrefixTag; 3 = 5 })
unfolding said_by
prefix_step said at word v stands = by (prefix_of_text word) (λ p is. short_prefix word p is) where
  by : (o : Option WrittenPrefix) → ((p : WrittenPrefix) → o ≡ Some p → p.len ≤ 32) →
      option_map (λ p. Prefix p) o ≡ Some v → Stands 5 (said ++ record { tag = PrefixTag; value = v } ∷ [])
  by None short is = absurd cc
  by (Some p) short is =
      let same : Prefix p ≡ v = cc in
      subst (λ (w : Value). Stands 5 (said ++ record { tag = PrefixTag; value = w } ∷ [])) same
      (with_prefix said p (short p refl) stands)

low_step : StepKept (record { 0 = 6; 1 = LengthFrom; 2 = Low; 3 = 7 })
unfolding said_by said_back
low_step said at word v stands =
    by (number_from (least_length said) 32 word) (λ n is. number_within (least_length said) 32 n word is)
  where
    by : (o : Option ℕ) → ((n : ℕ) → o ≡ Some n → (least_length said ≤ n) × (n ≤ 32)) →
        option_map (λ n. Number n) o ≡ Some v → Stands 7 (said ++ record { tag = Low; value = v } ∷ [])
    by None within is = absurd cc
    by (Some n) within is =
        let same : Number n ≡ v = cc in
        let both = within n refl in
        subst (λ (w : Value). Stands 7 (said ++ record { tag = Low; value = w } ∷ [])) same
        (with_low said n both.0 both.1 stands)

high_step : StepKept (record { 0 = 8; 1 = LengthFrom; 2 = High; 3 = 10 })
unfolding said_by said_back
high_step said at word v stands =
    by (number_from (least_length said) 32 word) (λ n is. number_within (least_length said) 32 n word is)
  where
    by : (o : Option ℕ) → ((n : ℕ) → o ≡ Some n → (least_length said ≤ n) × (n ≤ 32)) →
        option_map (λ n. Number n) o ≡ Some v → Stands 10 (said ++ record { tag = High; value = v } ∷ [])
    by None within is = absurd cc
    by (Some n) within is =
        let same : Number n ≡ v = cc in
        let both = within n refl in
        subst (λ (w : Value). Stands 10 (said ++ record { tag = High; value = w } ∷ [])) same
        (with_high said n both.0 both.1 stands)

quiet_steps : (edges : List Edge) → list_all is_quiet edges ≡ true → AllByRecursion StepKept edges
quiet_steps [] all = tt
quiet_steps (edge ∷ rest) all =
    let both = and_parts (is_quiet edge) (list_all is_quiet rest) all in
    (quiet_kept edge both.0, quiet_steps rest both.1)

joined : (front back : List Edge) → AllByRecursion StepKept front → AllByRecursion StepKept back →
    AllByRecursion StepKept (front ++ back)
joined [] back here there = there
joined (edge ∷ front) back here there = (here.0, joined front back here.1 there)

-- each edge of the table is quiet, but the ninth, the thirteenth and the sixteenth, which say lengths
table_steps : AllByRecursion StepKept PREFIX_LIST
table_steps =
    let after_low : AllByRecursion StepKept (drop 13 PREFIX_LIST) = joined (take 2 (drop 13 PREFIX_LIST))
    (drop 15 PREFIX_LIST) (quiet_steps (take 2 (drop 13 PREFIX_LIST)) refl)
    (high_step, quiet_steps (drop 16 PREFIX_LIST) refl) in
    let after_prefix : AllByRecursion StepKept (drop 9 PREFIX_LIST) = joined (take 3 (drop 9 PREFIX_LIST))
    (drop 12 PREFIX_LIST) (quiet_steps (take 3 (drop 9 PREFIX_LIST)) refl) (low_step, after_low) in
    joined (take 8 PREFIX_LIST) (drop 8 PREFIX_LIST) (quiet_steps (take 8 PREFIX_LIST) refl)
    (prefix_step, after_prefix)

-- ---- along the table

leaves_kept : (edge : Edge) → StepKept edge → (from : ℕ) (said : List Said) (at : ℕ) (word : List ℕ) (way : Way) →
    Stands from said → leaves from said at word edge ≡ Some way → Stands way.to (said ++ way.said ∷ [])
leaves_kept edge kept from said at word way stands =
    by (edge.0 == from) (said_by edge.1 said at word) refl refl
  where
    by : (b : Bool) (o : Option Value) → (edge.0 == from) ≡ b → said_by edge.1 said at word ≡ o →
        (if b then option_map (goes edge) o else None) ≡ Some way → Stands way.to (said ++ way.said ∷ [])
    by false o here says is = absurd cc
    by true None here says is = absurd cc
    by true (Some v) here says is =
        let same : goes edge v ≡ way = cc in
        let state : from ≡ edge.0 = sym (eqb-true edge.0 from here) in
        subst (λ (w : Way). Stands w.to (said ++ w.said ∷ [])) same
        (kept said at word v (subst (λ n. Stands n said) state stands) says)

way_kept : (edges : List Edge) → AllByRecursion StepKept edges → (from : ℕ) (said : List Said) (at : ℕ)
    (word : List ℕ) (way : Way) → Stands from said → way_of from said at word edges ≡ Some way →
    Stands way.to (said ++ way.said ∷ [])
way_kept [] kept from said at word way stands is = absurd cc
way_kept (edge ∷ rest) kept from said at word way stands is =
    by (leaves from said at word edge) (λ w found. leaves_kept edge kept.0 from said at word w stands found)
    (way_kept rest kept.1 from said at word way stands) is
  where
    by : (o : Option Way) → ((w : Way) → o ≡ Some w → Stands w.to (said ++ w.said ∷ [])) →
        (way_of from said at word rest ≡ Some way → Stands way.to (said ++ way.said ∷ [])) →
        option_or o (way_of from said at word rest) ≡ Some way → Stands way.to (said ++ way.said ∷ [])
    by None here later is = later is
    by (Some w) here later is =
        let same : w ≡ way = cc in
        subst (λ (x : Way). Stands x.to (said ++ x.said ∷ [])) same (here w refl)

read_kept : (edges : List Edge) → AllByRecursion StepKept edges → (words : List (List ℕ)) (from : ℕ) (said : List Said)
    (at : ℕ) (all : List Said) → Stands from said → read_from edges from said at words ≡ Ok all → HasLengths all
read_kept edges kept [] from said at all stands = by (may_end edges from) where
  by : (b : Bool) → ◌≡◌ {A = Result (List Said) Cause} (if b then Ok said else Err (BadWord (at + 1))) (Ok all) →
      HasLengths all
  by true is = let same : said ≡ all = cc in subst HasLengths same (lengths_of from said stands)
  by false is = absurd cc
read_kept edges kept (word ∷ rest) from said at all stands =
    by (way_of from said at word edges) (λ way is. way_kept edges kept from said at word way stands is)
    (λ way next. read_kept edges kept rest way.to (said ++ way.said ∷ []) (at + 1) all next)
  where
    by : (o : Option Way) → ((way : Way) → o ≡ Some way → Stands way.to (said ++ way.said ∷ [])) →
        ((way : Way) → Stands way.to (said ++ way.said ∷ [])
        → read_from edges way.to (said ++ way.said ∷ []) (at + 1) rest ≡ Ok all → HasLengths all) →
        option_map_or (λ way. read_from edges way.to (said ++ way.said ∷ []) (at + 1) rest) o (Err (BadWord (at + 1)))
        ≡ Ok all → HasLengths all
    by None found later is = absurd cc
    by (Some way) found later is = later way (found way refl) is

-- ---- a line of a row

-- where the row is that of a prefix list, the lengths that were said are in order
abbrev pub SaysLengths : Row → List Said → Type 0
SaysLengths PrefixList said = HasLengths said
SaysLengths _ said = ⊤

by_row : (row : Row) (at : ℕ) (words : List (List ℕ)) (said : List Said) →
    read_from (edges_of row) (state_of row) [] at words ≡ Ok said → SaysLengths row said
unfolding edges_of
by_row PrefixList at words said is =
    read_kept PREFIX_LIST table_steps words 0 [] at said nothing_said is
by_row _ at words said is = tt

-- a line that was read says its lengths in order, where it says some
pub says_lengths : (found : Found) (words : List (List ℕ)) (said : List Said) → said_in found words ≡ Ok said →
    SaysLengths found.row said
says_lengths found words said = by_row found.row (tail_of found) (drop (tail_of found) words) said

-- Announcements that stand as terms are the same where their numbers are.
use Rattle.std.proofs.Common.{◌≡◌, ℕ, ◌+◌, ◌*◌, ◌<◌, ◌≤◌, Bool, true, false, List, [], ◌∷◌, length, Some, None}
use Rattle.std.proofs.Common.{not, refl, sym, ap, arith, ◌∙◌}
use Rattle.std.specs.Prelude.{◌==◌, ◌&&◌, ◌||◌, ◌↔◌, option_map, if◌then◌else◌}
use Rattle.std.proofs.lemmas.Bool.{and_from, and_parts, eq-eqb, eqb-true, false≢true}
use Rattle.std.proofs.lemmas.Option.{same_Some}
use Rattle.route_shapes.specs.Bgp.{BgpShape}
use Rattle.bgp_shapes.specs.Candidates.{ShapeAnnouncement}
use Rattle.announced_places.specs.Environments.{announcement_of}
use Rattle.term_store.specs.declared.NodeId.{NodeId}
use Rattle.term_store.specs.Terms.{Reading, at, differ}
use Rattle.term_arith.specs.Bits.{bit, bits, ids_end, number, number_of}
use Rattle.term_arith.proofs.NumberLemmas.{ids_end_at, length_bits}
use Rattle.joined_terms.specs.Joining.{place_of}
use Rattle.sym_policy.specs.declared.records.SymBgp.{SymBgp}
use Rattle.sym_policy.specs.Held.{bgp_at, bgp_end}
use Rattle.peers_beside.specs.Same.{HaveSameLists, announced_at, announced_by}

-- ---- lists of bits that are one number

low_bit : (x y : Bool) (m n : ℕ) → bit x + 2 * m ≡ bit y + 2 * n → x ≡ y
low_bit true true m n same = refl
low_bit true false m n same = absurd (omega (arith, same))
low_bit false true m n same = absurd (omega (arith, same))
low_bit false false m n same = refl

one_number : (xs ys : List Bool) → length xs ≡ length ys → number_of xs ≡ number_of ys → xs ≡ ys
one_number [] [] long same = refl
one_number [] (y ∷ ys) long same = absurd (omega (arith, long))
one_number (x ∷ xs) [] long same = absurd (omega (arith, long))
one_number (x ∷ xs) (y ∷ ys) long same =
    let low : x ≡ y = low_bit x y (number_of xs) (number_of ys) same in
    let bits_same = ap bit low in
    let rest = one_number xs ys (omega (arith, long)) (omega (arith, same, bits_same)) in
    ap (λ b. b ∷ xs) low ∙ ap (λ bs. y ∷ bs) rest

one_list : (w u : Reading) (xs ys : List NodeId) → length xs ≡ length ys → number w xs ≡ number u ys →
    bits w xs ≡ bits u ys
one_list w u xs ys long same =
    one_number (bits w xs) (bits u ys) (length_bits w xs ∙ long ∙ sym (length_bits u ys)) same

-- ---- the shape of an announcement by its numbers

-- the path has these, but for the tracked numbers in it
abbrev pub same_path : Reading → Reading → SymBgp → SymBgp → Bool
same_path w u a b =
    (number w a.len.nodes.items == number u b.len.nodes.items)
    && ((number w a.first.nodes.items == number u b.first.nodes.items)
    && (number w a.last.nodes.items == number u b.last.nodes.items))

abbrev pub same_lists : Reading → Reading → SymBgp → SymBgp → Bool
same_lists w u a b =
    (number w a.numbers.nodes.items == number u b.numbers.nodes.items)
    && (number w a.communities.nodes.items == number u b.communities.nodes.items)

abbrev pub same_merits : Reading → Reading → SymBgp → SymBgp → Bool
same_merits w u a b =
    (number w a.med.nodes.items == number u b.med.nodes.items)
    && (number w a.origin.nodes.items == number u b.origin.nodes.items)

abbrev pub same_parts : Reading → Reading → SymBgp → SymBgp → Bool
same_parts w u a b = same_path w u a b && (same_lists w u a b && same_merits w u a b)

two_numbers : (m n p q : ℕ) → ((m == n) && (p == q)) ≡ true → (m ≡ n) × (p ≡ q)
two_numbers m n p q same =
    let both = and_parts (m == n) (p == q) same in (eqb-true m n both.0, eqb-true p q both.1)

three_numbers : (k l m n p q : ℕ) → ((k == l) && ((m == n) && (p == q))) ≡ true → (k ≡ l) × (m ≡ n) × (p ≡ q)
three_numbers k l m n p q same =
    let both = and_parts (k == l) ((m == n) && (p == q)) same in
    let rest = two_numbers m n p q both.1 in (eqb-true k l both.0, rest.0, rest.1)

made : ℕ → ℕ → ℕ → List Bool → ℕ → ℕ → List Bool → ShapeAnnouncement
made len first last numbers med origin communities = record {
  end = 0;
  len = 0;
  path = record { len = len; first = first; last = last; numbers = numbers };
  med = med;
  origin = origin;
  communities = communities;
}

parts_on : (w u : Reading) (a b : SymBgp) → HaveSameLists a b → same_parts w u a b ≡ true →
    announced_at w a ≡ announced_at u b
unfolding made
parts_on w u a b lists same =
    ap (λ n. made n (number w a.first.nodes.items) (number w a.last.nodes.items) (bits w a.numbers.nodes.items)
    (number w a.med.nodes.items) (number w a.origin.nodes.items) (bits w a.communities.nodes.items)) ends.0
    ∙ ap (λ n. made (number u b.len.nodes.items) n (number w a.last.nodes.items) (bits w a.numbers.nodes.items)
    (number w a.med.nodes.items) (number w a.origin.nodes.items) (bits w a.communities.nodes.items)) ends.1
    ∙ ap (λ n. made (number u b.len.nodes.items) (number u b.first.nodes.items) n (bits w a.numbers.nodes.items)
    (number w a.med.nodes.items) (number w a.origin.nodes.items) (bits w a.communities.nodes.items)) ends.2
    ∙ ap (λ ns. made (number u b.len.nodes.items) (number u b.first.nodes.items) (number u b.last.nodes.items) ns
    (number w a.med.nodes.items) (number w a.origin.nodes.items) (bits w a.communities.nodes.items)) numbers
    ∙ ap (λ n. made (number u b.len.nodes.items) (number u b.first.nodes.items) (number u b.last.nodes.items)
    (bits u b.numbers.nodes.items) n (number w a.origin.nodes.items) (bits w a.communities.nodes.items)) merits.0
    ∙ ap (λ n. made (number u b.len.nodes.items) (number u b.first.nodes.items) (number u b.last.nodes.items)
    (bits u b.numbers.nodes.items) (number u b.med.nodes.items) n (bits w a.communities.nodes.items)) merits.1
    ∙ ap (λ cs. made (number u b.len.nodes.items) (number u b.first.nodes.items) (number u b.last.nodes.items)
    (bits u b.numbers.nodes.items) (number u b.med.nodes.items) (number u b.origin.nodes.items) cs) communities
  where
    path : (same_path w u a b ≡ true) × ((same_lists w u a b && same_merits w u a b) ≡ true)
    path = and_parts (same_path w u a b) (same_lists w u a b && same_merits w u a b) same

    rest : (same_lists w u a b ≡ true) × (same_merits w u a b ≡ true)
    rest = and_parts (same_lists w u a b) (same_merits w u a b) path.1

    ends : (number w a.len.nodes.items ≡ number u b.len.nodes.items)
        × (number w a.first.nodes.items ≡ number u b.first.nodes.items)
        × (number w a.last.nodes.items ≡ number u b.last.nodes.items)
    ends = three_numbers (number w a.len.nodes.items) (number u b.len.nodes.items)
        (number w a.first.nodes.items) (number u b.first.nodes.items)
        (number w a.last.nodes.items) (number u b.last.nodes.items) path.0

    lists_are : (number w a.numbers.nodes.items ≡ number u b.numbers.nodes.items)
        × (number w a.communities.nodes.items ≡ number u b.communities.nodes.items)
    lists_are = two_numbers (number w a.numbers.nodes.items) (number u b.numbers.nodes.items)
        (number w a.communities.nodes.items) (number u b.communities.nodes.items) rest.0

    merits : (number w a.med.nodes.items ≡ number u b.med.nodes.items)
        × (number w a.origin.nodes.items ≡ number u b.origin.nodes.items)
    merits = two_numbers (number w a.med.nodes.items) (number u b.med.nodes.items)
        (number w a.origin.nodes.items) (number u b.origin.nodes.items) rest.1

    numbers : bits w a.numbers.nodes.items ≡ bits u b.numbers.nodes.items
    numbers = one_list w u a.numbers.nodes.items b.numbers.nodes.items lists.numbers lists_are.0

    communities : bits w a.communities.nodes.items ≡ bits u b.communities.nodes.items
    communities = one_list w u a.communities.nodes.items b.communities.nodes.items lists.communities lists_are.1

parts_back : (w u : Reading) (a b : SymBgp) → announced_at w a ≡ announced_at u b → same_parts w u a b ≡ true
parts_back w u a b same =
    and_from _ _
    (and_from _ _ (eq-eqb _ _ (ap (λ (s : ShapeAnnouncement). s.path.len) same))
    (and_from _ _ (eq-eqb _ _ (ap (λ (s : ShapeAnnouncement). s.path.first) same))
    (eq-eqb _ _ (ap (λ (s : ShapeAnnouncement). s.path.last) same))))
    (and_from _ _
    (and_from _ _ (eq-eqb _ _ (ap (λ (s : ShapeAnnouncement). number_of s.path.numbers) same))
    (eq-eqb _ _ (ap (λ (s : ShapeAnnouncement). number_of s.communities) same)))
    (and_from _ _ (eq-eqb _ _ (ap (λ (s : ShapeAnnouncement). s.med) same))
    (eq-eqb _ _ (ap (λ (s : ShapeAnnouncement). s.origin) same))))

-- all parts are the same exactly where the announcements are
pub parts_tell : (w u : Reading) (a b : SymBgp) (r : Bool) → HaveSameLists a b → r ≡ same_parts w u a b →
    r ≡ true ↔ announced_at w a ≡ announced_at u b
parts_tell w u a b r lists is =
    (λ holds. parts_on w u a b lists (sym is ∙ holds), λ same. is ∙ parts_back w u a b same)

-- ---- the announcement, where there is one

-- both are there or neither is, and where they are they are the same
pub there_tells : (w u : Reading) (a b : SymBgp) (same r : Bool) →
    same ≡ true ↔ announced_at w a ≡ announced_at u b →
    r ≡ (not (differ (at w a.valid) (at u b.valid)) && (not (at w a.valid) || same)) →
    r ≡ true ↔ announced_by w a ≡ announced_by u b
there_tells w u a b same r tells is =
    let both = by (at w a.valid) (at u b.valid) (bgp_at w a) (bgp_at u b) same tells in
    (λ holds. both.0 (sym is ∙ holds), λ one. is ∙ both.1 one)
  where
    by : (p q : Bool) (s t : BgpShape) (same : Bool) →
        same ≡ true ↔ announcement_of 0 0 s ≡ announcement_of 0 0 t →
        (not (differ p q) && (not p || same)) ≡ true
        ↔ option_map (announcement_of 0 0) (if p then Some s else None)
        ≡ option_map (announcement_of 0 0) (if q then Some t else None)
    by true true s t same tells =
        (λ holds. ap Some (tells.0 holds), λ one. tells.1 (same_Some (announcement_of 0 0 s) (announcement_of 0 0 t) one))
    by true false s t same tells = (λ holds. absurd (false≢true holds), λ one. absurd cc)
    by false true s t same tells = (λ holds. absurd (false≢true holds), λ one. absurd cc)
    by false false s t same tells = (λ holds. refl, λ one. refl)

-- ---- the place of the node that says so

pub valid_placed : (places : List NodeId) (b : SymBgp) (most : ℕ) → bgp_end b ≤ length places → ids_end places ≤ most →
    (place_of places b.valid).0 < most
valid_placed places b most long within =
    let end = ids_end_at places b.valid.0 (record { 0 = 0 }) (omega (arith, long)) in omega (arith, end, within)

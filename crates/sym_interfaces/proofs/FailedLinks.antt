-- Which links a reading says have failed, by the nodes at their places.
use Rattle.std.proofs.Common.{◌≡◌, ℕ, zero, suc, ◌+◌, ◌<◌, ◌≤◌, Bool, true, false, not, List, [], ◌∷◌, length, get_or}
use Rattle.std.proofs.Common.{Option, Some, None, refl, ap, sym, ◌∙◌, arith, ◌⊎◌, inl, inr, if◌then◌else◌}
use Rattle.std.specs.Prelude.{◌==◌, ◌&&◌, ◌||◌, AllPairs, nat_lt, position, slice_get, slice_index_or}
use Rattle.std.specs.List.{list_any, position_or_len}
use Rattle.std.specs.Option.{option_map_or}
use Rattle.std.proofs.lemmas.Bool.{not-true}
use Rattle.std.proofs.lemmas.Bool.Decides.{nat_tests}
use Rattle.std.proofs.lemmas.List.{get_or_past}
use Rattle.std.proofs.lemmas.List.Quantifiers.{position-Some}
use Rattle.std.proofs.lemmas.List.Sums.{prefix_len_passes}
use Rattle.std.proofs.lemmas.Option.{slice_get_cases}
use Rattle.mw_text.specs.declared.address.Prefix.{Prefix}
use Rattle.mw_text.specs.Address.{same_prefix}
use Rattle.mw_text.proofs.Numbers.{flipped}
use Rattle.ios_ast.specs.declared.file.File.{File}
use Rattle.net_parts.specs.declared.links.Link.{Link}
use Rattle.net_parts.specs.World.{IsBefore, is_failed, links_of}
use Rattle.term_store.specs.declared.NodeId.{NodeId}
use Rattle.term_store.specs.Terms.{Reading, at}
use Rattle.term_arith.specs.Bits.{bits}
use Rattle.term_arith.proofs.NumberLemmas.{ids_end_at, length_bits, node_at_place}
use Rattle.sym_policy.specs.declared.records.SymNet.{SymNet}
use Rattle.sym_policy.specs.Held.{failures_of, positions}

-- ---- a test over the positions of the values that are true

-- one that holds at none of them
no_position : (f : ℕ → Bool) (bs : List Bool) (first : ℕ) → ((k : ℕ) → first ≤ k → f k ≡ false)
    → list_any f (positions first bs) ≡ false
no_position f [] first none = refl
no_position f (true ∷ bs) first none =
    rw (none first (omega arith)) (no_position f bs (suc first) (λ k h. none k (omega (arith, h))))
no_position f (false ∷ bs) first none = no_position f bs (suc first) (λ k h. none k (omega (arith, h)))

-- one that holds at one number alone
one_position : (f : ℕ → Bool) (bs : List Bool) (n first k : ℕ) → k ≡ first + n → f k ≡ true
    → ((j : ℕ) → (j ≡ k → ⊥) → f j ≡ false) → list_any f (positions first bs) ≡ slice_index_or bs n false
one_position f [] n first k is here other = sym (get_or_past [] n false (omega arith))
one_position f (true ∷ bs) zero first k is here other =
    let same : first ≡ k = omega (arith, is) in
    rw (ap f same ∙ here) refl
one_position f (false ∷ bs) zero first k is here other =
    no_position f bs (suc first) (λ j above. other j (λ same. absurd (omega (arith, above, same, is))))
one_position f (true ∷ bs) (suc n) first k is here other =
    rw (other first (λ same. absurd (omega (arith, same, is))))
    (one_position f bs n (suc first) k (omega (arith, is)) here other)
one_position f (false ∷ bs) (suc n) first k is here other =
    one_position f bs n (suc first) k (omega (arith, is)) here other

-- ---- the place of a prefix among links

-- the link at that place has the prefix
abbrev has_at : List Link → Prefix → ℕ → Bool
has_at links p k = option_map_or (λ link. same_prefix p link.prefix) (slice_get links k) false

flip : (p q : Prefix) → same_prefix p q ≡ same_prefix q p
flip p q = flipped p.addr.0 q.addr.0 p.len q.len

apart : (a b c k l n : ℕ) → (nat_lt a b || ((a == b) && nat_lt k l)) ≡ true → ((a == c) && (k == n)) ≡ true
    → ((b == c) && (l == n)) ≡ false
apart a b c k l n before same = grind (arith, nat_tests)

has_from : (links : List Link) (p : Prefix) (k : ℕ) (b : Bool)
    → ((d : Link) → k < length links → same_prefix (get_or links k d).prefix p ≡ b) → (length links ≤ k → b ≡ false)
    → has_at links p k ≡ b
has_from links p k b within past = by_case (slice_get_cases links k).1 where
  by_case : ((x : Link) × (k < length links) × (slice_get links k ≡ Some x) × (get_or links k x ≡ x))
      ⊎ ((length links ≤ k) × (slice_get links k ≡ None)) → has_at links p k ≡ b
  by_case (inl (x, below, there, is)) =
      ap (λ o. option_map_or (λ (link : Link). same_prefix p link.prefix) o false) there
      ∙ flip p x.prefix ∙ ap (λ (y : Link). same_prefix y.prefix p) (sym is) ∙ within x below
  by_case (inr (above, none)) =
      ap (λ o. option_map_or (λ (link : Link). same_prefix p link.prefix) o false) none ∙ sym (past above)

none_of : (b : Bool) (n : ℕ) → (if b then Some n else None) ≡ None → b ≡ false
none_of true n same = cc
none_of false n same = refl

-- where no link has the prefix, each differs
none_has : (links : List Link) (p : Prefix) (k : ℕ) → position (λ link. same_prefix link.prefix p) links ≡ None
    → has_at links p k ≡ false
none_has links p k none = has_from links p k false within (λ above. refl) where
  test : Link → Bool
  test = λ link. same_prefix link.prefix p

  within : (d : Link) → k < length links → same_prefix (get_or links k d).prefix p ≡ false
  within d below =
      let ends = none_of (nat_lt (position_or_len test links) (length links)) _ none in
      let whole : length links ≤ position_or_len test links = grind (arith, nat_tests, ends) in
      not-true _ (prefix_len_passes (λ link. not (test link)) links k d (omega (arith, below, whole)))

-- the place of the one link that has the prefix
one_has : (links : List Link) (p : Prefix) (k : ℕ) → AllPairs IsBefore links
    → position (λ link. same_prefix link.prefix p) links ≡ Some k
    → (has_at links p k ≡ true) × ((j : ℕ) → (j ≡ k → ⊥) → has_at links p j ≡ false)
one_has links p k up there = (here, other) where
  test : Link → Bool
  test = λ link. same_prefix link.prefix p

  here : has_at links p k ≡ true
  here =
      has_from links p k true (λ d below. (position-Some test links k d there).1)
      (λ above. absurd (let within = (position-Some test links k (record {
        prefix = p;
        ifaces = [];
      }) there).0 in omega (arith, above, within)))

  other : (j : ℕ) → (j ≡ k → ⊥) → has_at links p j ≡ false
  other j differs = has_from links p j false within (λ above. refl) where
    within : (d : Link) → j < length links → same_prefix (get_or links j d).prefix p ≡ false
    within d below = by_order (cases_order j k) where
      same : test (get_or links k d) ≡ true
      same = (position-Some test links k d there).1

      cases_order : (j k : ℕ) → (j < k) ⊎ ((j ≡ k) ⊎ (k < j))
      cases_order j k = grind arith

      by_order : (j < k) ⊎ ((j ≡ k) ⊎ (k < j)) → same_prefix (get_or links j d).prefix p ≡ false
      by_order (inl before) = (position-Some test links k d there).2 j before
      by_order (inr (inl equal)) = absurd (differs equal)
      by_order (inr (inr after)) =
          apart (get_or links k d).prefix.addr.0 (get_or links j d).prefix.addr.0 p.addr.0 (get_or links k d).prefix.len
          (get_or links j d).prefix.len p.len (up k j d after below) same

-- ---- the failed links of a reading

by_place : (links : List Link) (p : Prefix) (bs : List Bool) → AllPairs IsBefore links
    → list_any (has_at links p) (positions 0 bs)
    ≡ option_map_or (λ k. slice_index_or bs k false) (position (λ link. same_prefix link.prefix p) links) false
by_place links p bs up = by_option (position (λ link. same_prefix link.prefix p) links) refl where
  by_option : (o : Option ℕ) → position (λ link. same_prefix link.prefix p) links ≡ o
      → list_any (has_at links p) (positions 0 bs) ≡ option_map_or (λ k. slice_index_or bs k false) o false
  by_option None none = no_position (has_at links p) bs 0 (λ k _. none_has links p k none)
  by_option (Some k) there =
      let one = one_has links p k up there in
      one_position (has_at links p) bs k 0 k (omega arith) one.0 one.1

-- a subnet has failed where the node at the place of its link is true
pub failed_at : (w : Reading) (net : SymNet) (files : List File) (p : Prefix) → AllPairs IsBefore (links_of files)
    → is_failed files (failures_of w net) p
    ≡ option_map_or (λ k. slice_index_or (bits w net.down) k false)
    (position (λ link. same_prefix link.prefix p) (links_of files)) false
unfolding failures_of
failed_at w net files p up = by_place (links_of files) p (bits w net.down) up

pub no_node : (w : Reading) (ids : List NodeId) (k : ℕ) → length ids ≤ k → slice_index_or (bits w ids) k false ≡ false
no_node w ids k past = get_or_past (bits w ids) k false (omega (arith, past, length_bits w ids))

pub ruleset down_steps = (node_at_place, no_node, ids_end_at)

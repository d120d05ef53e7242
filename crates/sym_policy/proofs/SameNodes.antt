-- What copies and what route maps see of a record mean, by their nodes.
use Rattle.std.proofs.Common.{◌≡◌, ◌≤◌, ◌<◌, ℕ, ◌+◌, ◌&&◌, if◌then◌else◌, max, Some, None, length, sym, ap, ◌∙◌}
use Rattle.std.proofs.Common.{arith, subst}
use Rattle.std.proofs.Math.Nat.{max-le}
use Rattle.term_store.specs.declared.NodeId.{NodeId}
use Rattle.term_store.specs.Terms.{Store, Reading, size, at}
use Rattle.term_store.specs.Reading.{Reads}
use Rattle.term_arith.specs.Bits.{bits, number, ids_end}
use Rattle.route_record.specs.declared.tracked.Tracked.{Tracked}
use Rattle.sym_policy.specs.declared.parts.SymPath.{SymPath}
use Rattle.sym_policy.specs.declared.parts.SymPreferences.{SymPreferences}
use Rattle.sym_policy.specs.declared.parts.SymRest.{SymRest}
use Rattle.sym_policy.specs.declared.parts.SymRoute.{SymRoute}
use Rattle.sym_policy.specs.declared.parts.SymMade.{SymMade}
use Rattle.sym_policy.specs.declared.records.SymBgp.{SymBgp}
use Rattle.sym_policy.specs.declared.records.SymMapRec.{SymMapRec}
use Rattle.sym_policy.specs.Held.{bgp_at, bgp_end}
use Rattle.sym_policy.specs.SameNodes.{HasPath, HasPreferences, SameRoute, IsSeen, IsRest, IsJoined}
use Rattle.sym_policy.specs.MapRecs.{attributes_at, map_rec_end, seen_end, kept_end, HasMarks, KeepsRest, IsMade}
use Rattle.sym_policy.specs.Routes.{path_end, preferences_end, route_at, route_end, rest_end, made_end, HasRows, SameRows}
use Rattle.sym_policy.specs.Routes.{path_at}
use Rattle.sym_policy.proofs.Choices.{both_there}

-- a copy is read as the route is, and ends where it does
pub copied_at : (a b : SymRoute) → SameRoute a b → (w : Reading) → route_at w b ≡ route_at w a
copied_at a b h w = λ i. record {
  preferences = record {
    weight = number w (h.preferences.weight i);
    local_pref = number w (h.preferences.local_pref i);
    med = number w (h.preferences.med i);
    origin = number w (h.preferences.origin i);
  };
  path = record {
    len = number w (h.path.len i);
    first = number w (h.path.first i);
    last = number w (h.path.last i);
    numbers = bits w (h.path.numbers i);
  };
  communities = bits w (h.communities i);
  type1 = at w (h.type1 i);
}

pub copied_end : (a b : SymRoute) → SameRoute a b → route_end b ≡ route_end a
copied_end a b h = λ i.
    max
    (max (max (ids_end (h.preferences.weight i)) (ids_end (h.preferences.local_pref i)))
    (max (ids_end (h.preferences.med i)) (ids_end (h.preferences.origin i))))
    (max
    (max (max (ids_end (h.path.len i)) (ids_end (h.path.first i)))
    (max (ids_end (h.path.last i)) (ids_end (h.path.numbers i))))
    (max (ids_end (h.communities i)) ((h.type1 i).0 + 1)))

pub copied_rows : (a b : SymRoute) → SameRoute a b → SameRows b a
copied_rows a b h = record { numbers = ap length h.path.numbers; communities = ap length h.communities }

-- for copies, in `using`
pub ruleset copied_steps = (copied_at, copied_end, copied_rows)

-- what route maps see of a record is read as they see it, and ends where that does
pub seen_at : (rec : SymMapRec) (s : SymRoute) → IsSeen rec s → (w : Reading) → route_at w s ≡ attributes_at w rec
seen_at rec s h w = λ i. record {
  preferences = record {
    weight = number w (h.preferences.weight i);
    local_pref = number w (h.preferences.local_pref i);
    med = number w (h.preferences.med i);
    origin = number w (h.preferences.origin i);
  };
  path = record {
    len = number w (h.path.len i);
    first = number w (h.path.first i);
    last = number w (h.path.last i);
    numbers = bits w (h.path.numbers i);
  };
  communities = bits w (h.communities i);
  type1 = at w (h.type1 i);
}

pub seen_ends : (rec : SymMapRec) (s : SymRoute) → IsSeen rec s → route_end s ≡ seen_end rec
seen_ends rec s h = λ i.
    max
    (max (max (ids_end (h.preferences.weight i)) (ids_end (h.preferences.local_pref i)))
    (max (ids_end (h.preferences.med i)) (ids_end (h.preferences.origin i))))
    (max
    (max (max (ids_end (h.path.len i)) (ids_end (h.path.first i)))
    (max (ids_end (h.path.last i)) (ids_end (h.path.numbers i))))
    (max (ids_end (h.communities i)) ((h.type1 i).0 + 1)))

pub seen_rows : (tracked : Tracked) (rec : SymMapRec) (s : SymRoute) → HasMarks tracked rec → IsSeen rec s
    → HasRows tracked s
seen_rows tracked rec s marks h = record {
  numbers = ap length h.path.numbers ∙ marks.numbers;
  communities = ap length h.communities ∙ marks.communities;
}

pub seen_within : (rec : SymMapRec) (s : SymRoute) (n : ℕ) → IsSeen rec s → map_rec_end rec ≤ n → route_end s ≤ n
seen_within rec s n h within =
    subst (λ (k : ℕ). k ≤ n) (sym (seen_ends rec s h)) (middle rec.bgp.valid.0 (seen_end rec) (kept_end rec) n within)
  where
    middle : (a b c n : ℕ) → max (a + 1) (max b c) ≤ n → b ≤ n
    middle a b c n h = omega arith

-- for what route maps see, in `using`
pub ruleset seen_steps = (seen_at, seen_rows, seen_within)

-- a record that is put together is read and ends as its parts do
pub joined_at : (there : NodeId) (route : SymRoute) (rest : SymRest) (rec : SymMapRec) → IsJoined there route rest rec →
    (w : Reading) → attributes_at w rec ≡ route_at w route
joined_at there route rest rec h w = sym (seen_at rec route h.seen w)

rest_ends : (rec : SymMapRec) (s : SymRest) → IsRest rec.bgp s → rest_end s ≡ kept_end rec
rest_ends rec s h = λ i.
    max (max (ids_end (h.next_hop i)) (ids_end (h.originator i)))
    (max (ids_end (h.from i)) (max (ids_end (h.cluster_len i)) (ids_end (h.clusters i))))

pub joined_within : (there : NodeId) (route : SymRoute) (rest : SymRest) (rec : SymMapRec) (n : ℕ) →
    IsJoined there route rest rec → there.0 < n → route_end route ≤ n → rest_end rest ≤ n → map_rec_end rec ≤ n
joined_within there route rest rec n h there_in route_in rest_in =
    let first : rec.bgp.valid.0 < n = subst (λ (x : NodeId). x.0 < n) (sym h.valid) there_in in
    let seen : seen_end rec ≤ n = subst (λ (k : ℕ). k ≤ n) (seen_ends rec route h.seen) route_in in
    let kept : kept_end rec ≤ n = subst (λ (k : ℕ). k ≤ n) (rest_ends rec rest h.rest) rest_in in
    all rec.bgp.valid.0 (seen_end rec) (kept_end rec) first seen kept
  where
    all : (a b c : ℕ) → a < n → b ≤ n → c ≤ n → max (a + 1) (max b c) ≤ n
    all a b c first seen kept = omega arith

pub joined_marks : (tracked : Tracked) (there : NodeId) (route : SymRoute) (rest : SymRest) (rec : SymMapRec) →
    IsJoined there route rest rec → HasRows tracked route → HasMarks tracked rec
joined_marks tracked there route rest rec h rows = record {
  numbers = sym (ap length h.seen.path.numbers) ∙ rows.numbers;
  communities = sym (ap length h.seen.communities) ∙ rows.communities;
}

-- for records that are put together, in `using`
pub ruleset joined_steps = (joined_at, joined_within, joined_marks)

-- what route maps never set keeps its nodes in the record that is put together
pub kept : (before rec : SymMapRec) (s : SymRest) → IsRest before.bgp s → IsRest rec.bgp s → KeepsRest before rec
kept before rec s a b = record {
  next_hop = sym b.next_hop ∙ a.next_hop;
  originator = sym b.originator ∙ a.originator;
  from = sym b.from ∙ a.from;
  cluster_len = sym b.cluster_len ∙ a.cluster_len;
  clusters = sym b.clusters ∙ a.clusters;
}

kept_ends : (before rec : SymMapRec) → KeepsRest before rec → kept_end rec ≡ kept_end before
kept_ends before rec h = λ i.
    max (max (ids_end (h.next_hop i)) (ids_end (h.originator i)))
    (max (ids_end (h.from i)) (max (ids_end (h.cluster_len i)) (ids_end (h.clusters i))))

-- a record with what a map makes of it
pub made_joined : (t : Store) (before rec : SymMapRec) (made : SymMade) (valid : NodeId) (rest : SymRest)
    → map_rec_end before ≤ size t → made_end made ≤ size t → valid.0 < size t
    → ((w : Reading) → Reads w t → at w valid ≡ (at w before.bgp.valid && at w made.valid))
    → IsRest before.bgp rest → IsJoined valid made.route rest rec → IsMade t before made rec
made_joined t before rec made valid rest before_in made_in valid_in value left joined =
    let keeps = kept before rec rest left joined.rest in
    let old = kept_end before in
    let seen = route_end made.route in
    let old_in : old ≤ size t = ends before.bgp.valid.0 (seen_end before) old (size t) before_in in
    let seen_in : seen ≤ size t = behind made.valid.0 seen (size t) made_in in
    let first : rec.bgp.valid.0 + 1 ≤ size t =
    subst (λ (n : NodeId). n.0 + 1 ≤ size t) (sym joined.valid) (after valid.0 (size t) valid_in) in
    record {
      within =
          max-le first
          (max-le (subst (λ (n : ℕ). n ≤ size t) (seen_ends rec made.route joined.seen) seen_in)
          (subst (λ (n : ℕ). n ≤ size t) (sym (kept_ends before rec keeps)) old_in));
      numbers = sym (ap length joined.seen.path.numbers);
      communities = sym (ap length joined.seen.communities);
      rest = keeps;
      value = λ w reads.
          ap (λ v. if at w v then Some (attributes_at w rec) else None) joined.valid
          ∙ ap (λ a. if at w valid then Some a else None) (sym (seen_at rec made.route joined.seen w))
          ∙ ap (λ b. if b then Some (route_at w made.route) else None) (value w reads)
          ∙ both_there (at w before.bgp.valid) (at w made.valid) (route_at w made.route);
    }
  where
    ends : (a b c n : ℕ) → max (a + 1) (max b c) ≤ n → c ≤ n
    ends a b c n h = omega arith

    behind : (a b n : ℕ) → max (a + 1) b ≤ n → b ≤ n
    behind a b n h = omega arith

    after : (a n : ℕ) → a < n → a + 1 ≤ n
    after a n h = omega arith

-- ---- the nodes of a record and of its route

parts : (a b n : ℕ) → max a b ≤ n → (a ≤ n) × (b ≤ n)
parts a b n h = (omega arith, omega arith)

seen_parts : (p q d c t n : ℕ) → max (max p q) (max d (max c t)) ≤ n
    → ((p ≤ n) × (q ≤ n)) × ((d ≤ n) × (c ≤ n))
seen_parts p q d c t n h =
    let both = parts (max p q) (max d (max c t)) n h in
    let second = parts d (max c t) n both.1 in
    (parts p q n both.0, (second.0, (parts c t n second.1).0))

kept_parts : (h o f e n : ℕ) → max (max h o) (max f e) ≤ n → ((h ≤ n) × (o ≤ n)) × ((f ≤ n) × (e ≤ n))
kept_parts h o f e n within =
    let both = parts (max h o) (max f e) n within in
    (parts h o n both.0, parts f e n both.1)

-- a store that has all nodes of a record has those of its route
pub bgp_within : (rec : SymMapRec) (n : ℕ) → map_rec_end rec ≤ n → bgp_end rec.bgp ≤ n
bgp_within rec n h =
    let there = parts (rec.bgp.valid.0 + 1) (max (seen_end rec) (kept_end rec)) n h in
    let both = parts (seen_end rec) (kept_end rec) n there.1 in
    let seen = seen_parts _ _ _ _ _ n both.0 in
    let kept = kept_parts _ _ _ _ n both.1 in
    max-le (max-le (max-le there.0 seen.0.0) seen.0.1)
    (max-le seen.1.0 (max-le (max-le seen.1.1 kept.0.0) (max-le (max-le kept.0.1 kept.1.0) kept.1.1)))

-- and one that has all nodes of a route has those of copies of its parts
pub path_within : (held : SymBgp) (s : SymPath) (n : ℕ) → HasPath held.len held.first held.last held.numbers s →
    bgp_end held ≤ n → path_end s ≤ n
path_within held s n h within =
    let end : max (max (ids_end held.len.nodes.items) (ids_end held.first.nodes.items))
    (max (ids_end held.last.nodes.items) (ids_end held.numbers.nodes.items)) ≡ path_end s =
    λ i.
    max (max (ids_end (sym h.len i)) (ids_end (sym h.first i)))
    (max (ids_end (sym h.last i)) (ids_end (sym h.numbers i))) in
    subst (λ (k : ℕ). k ≤ n) end (parts _ _ n (parts _ _ n within).1).0

pub preferences_within : (held : SymBgp) (s : SymPreferences) (n : ℕ) →
    HasPreferences held.weight held.local_pref held.med held.origin s → bgp_end held ≤ n → preferences_end s ≤ n
preferences_within held s n h within =
    let end : max (max (ids_end held.weight.nodes.items) (ids_end held.local_pref.nodes.items))
    (max (ids_end held.med.nodes.items) (ids_end held.origin.nodes.items)) ≡ preferences_end s =
    λ i.
    max (max (ids_end (sym h.weight i)) (ids_end (sym h.local_pref i)))
    (max (ids_end (sym h.med i)) (ids_end (sym h.origin i))) in
    let first = parts _ _ n (parts _ _ n within).0 in
    subst (λ (k : ℕ). k ≤ n) end (max-le (parts _ _ n first.0).1 first.1)

pub rest_within : (held : SymBgp) (s : SymRest) (n : ℕ) → IsRest held s → bgp_end held ≤ n → rest_end s ≤ n
rest_within held s n h within =
    let end : max (max (ids_end held.next_hop.nodes.items) (ids_end held.originator.nodes.items))
    (max (ids_end held.from.nodes.items)
    (max (ids_end held.cluster_len.nodes.items) (ids_end held.clusters.nodes.items))) ≡ rest_end s =
    λ i.
    max (max (ids_end (sym h.next_hop i)) (ids_end (sym h.originator i)))
    (max (ids_end (sym h.from i)) (max (ids_end (sym h.cluster_len i)) (ids_end (sym h.clusters i)))) in
    let others = parts _ _ n (parts _ _ n (parts _ _ n within).1).1 in
    let hop = parts _ _ n others.0 in
    let behind = parts _ _ n others.1 in
    let ids = parts _ _ n behind.0 in
    subst (λ (k : ℕ). k ≤ n) end (max-le (max-le hop.1 ids.0) (max-le ids.1 behind.1))

-- a reading makes of the copy what it makes of the route's path
pub path_read : (w : Reading) (held : SymBgp) (s : SymPath) → HasPath held.len held.first held.last held.numbers s →
    path_at w s ≡ (bgp_at w held).path
path_read w held s h = λ i. record {
  len = number w (h.len i);
  first = number w (h.first i);
  last = number w (h.last i);
  numbers = bits w (h.numbers i);
}

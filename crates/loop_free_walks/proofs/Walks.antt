-- Walks whose hops lead nearer do not come back.
use Rattle.std.proofs.Common.{◌≡◌, ◌≢◌, ℕ, ◌+◌, ◌<◌, ◌≤◌, true, List, [], ◌∷◌, ◌++◌, length, inl, inr}
use Rattle.std.proofs.Common.{refl, sym, ap, subst, arith}
use Rattle.std.specs.Prelude.{◌⊎◌, All, Any, Contains, eqb}
use Rattle.std.specs.List.{IsDistinct, list_all}
use Rattle.std.proofs.lemmas.Bool.{ltb-true}
use Rattle.std.proofs.lemmas.List.Elements.{All-weaker}
use Rattle.std.proofs.lemmas.Map.Keys.{IsDistinct-cons}
use Rattle.std.proofs.lemmas.Map.Steps.{length-le_from_distinct_below}
use Rattle.std.proofs.lemmas.Option.{slice_get_read, slice_get_within}
use Rattle.mw_text.specs.Members.{In}
use Rattle.mw_text.proofs.Lists.{in-from_any}
use Rattle.mw_text.proofs.Numbers.{apart_from}
use Rattle.slot_places.proofs.Members.{in-place}
use Rattle.ios_ast.specs.declared.file.File.{File}
use Rattle.route_record.specs.declared.Environment.{Environment}
use Rattle.route_record.specs.declared.World.{World}
use Rattle.net_interfaces.specs.declared.interfaces.IfaceId.{IfaceId}
use Rattle.net_interfaces.specs.Limits.{keeps_limits}
use Rattle.net_parts.specs.Ospf.{adjacencies}
use Rattle.net_parts.specs.Stable.{Stable}
use Rattle.net_parts.proofs.Costs.{adjacency_costs}
use Rattle.net_parts.proofs.LeastWalks.{in-cases}
use Rattle.question_lang.specs.declared.question.Start.{Start}
use Rattle.question_lang.specs.declared.walk.End.{End}
use Rattle.question_lang.specs.declared.walk.End.TheVariants.{Loop}
use Rattle.question_lang.specs.declared.walk.Hop.TheVariants.{To}
use Rattle.question_lang.specs.Hops.{next_hops}
use Rattle.question_lang.specs.Walks.{GoesOn, IsWalkOver, LeadsTo}
use Rattle.walk_def.proofs.Inside.{next_hops_inside}
use Rattle.walk_def.proofs.Members.{test-of_item}
use Rattle.walk_def.specs.Marks.{is_inside}
use Rattle.loop_free_walks.specs.Entries.{AreInterior}
use Rattle.loop_free_walks.proofs.Hops.{leads}
use Rattle.loop_free_walks.proofs.Nearer.{IsNearer, mark, nearer, nearer_still, never_nearer}

some_member : {X : Type 0} (P : X → Type 0) (xs : List X) → Any P xs → (x : X) × In x xs × P x
some_member P xs (i, x, below, there, is) =
    (x, in-place xs i x (slice_get_read xs (length xs) i x refl below (sym there)), is)

module _ (files : List File) (world : World) (environment : Environment)
    (stable : Stable files world.packet.dst world.failures environment world.tables)
    (costs : All (λ a. 0 < a.cost) (adjacencies files))
    (interior : AreInterior world.tables) where
  -- the router sends the packet on to another one
  abbrev CanLead : ℕ → Type 0
  CanLead router = (i : IfaceId) × Contains (next_hops files world router) (To i)

  abbrev marked : ℕ → ℕ × ℕ
  marked = mark files world environment stable costs interior

  goes_nearer : (router : ℕ) (i : IfaceId) → Contains (next_hops files world router) (To i) → CanLead i.router →
      IsNearer (marked i.router) (marked router)
  goes_nearer router i sends onward =
      nearer files world environment stable costs interior router i.router onward.0.router
      (leads files world interior router i sends) (leads files world interior i.router onward.0 onward.1)

  -- of the routers at which a walk stood, the last one first, and of the one where it stands
  record IsKnown (before : List Start) (seen : List ℕ) (now : ℕ) : Type 0 where
    apart : IsDistinct eqb seen
    led : (q : ℕ) → In q seen → CanLead q
    noted : (stood : Start) → In stood before → In stood.router seen
    ahead : CanLead now → (q : ℕ) → In q seen → IsNearer (marked now) (marked q)

  new : (before : List Start) (seen : List ℕ) (now : ℕ) → IsKnown before seen now → In now seen → ⊥
  new before seen now known there = never_nearer (marked now) (known.ahead (known.led now there) now there)

  step : (before : List Start) (seen : List ℕ) (now next : Start) → IsKnown before seen now.router →
      LeadsTo (next_hops files world) now next →
      IsKnown (before ++ now ∷ []) (now.router ∷ seen) next.router
  step before seen now next known to = record {
    apart = IsDistinct-cons eqb now.router seen (apart_from now.router seen (new before seen now.router known)) known.apart;
    led = led_by;
    noted = λ stood there. noted_by stood (in-cases stood before (now ∷ []) there);
    ahead = ahead_by;
  }
    where
      i : IfaceId
      i = record { router = next.router; at = to.0 }

      sends : Contains (next_hops files world now.router) (To (record { router = next.router; at = to.0 }))
      sends = to.2

      led_by : (q : ℕ) → In q (now.router ∷ seen) → CanLead q
      led_by q (inl same) = subst CanLead (sym same) (record { router = next.router; at = to.0 }, sends)
      led_by q (inr later) = known.led q later

      noted_by : (stood : Start) → In stood before ⊎ In stood (now ∷ []) → In stood.router (now.router ∷ seen)
      noted_by stood (inl earlier) = inr (known.noted stood earlier)
      noted_by stood (inr (inl same)) = inl (ap (λ (s : Start). s.router) same)
      noted_by stood (inr (inr none)) = absurd none

      ahead_by : CanLead next.router → (q : ℕ) → In q (now.router ∷ seen) → IsNearer (marked next.router) (marked q)
      ahead_by onward q (inl same) =
          subst (λ r. IsNearer (marked next.router) (marked r)) (sym same)
          (goes_nearer now.router (record { router = next.router; at = to.0 }) sends onward)
      ahead_by onward q (inr later) =
          nearer_still (marked next.router) (marked now.router) (marked q)
          (goes_nearer now.router (record { router = next.router; at = to.0 }) sends onward)
          (known.ahead (record { router = next.router; at = to.0 }, sends) q later)

  no_loop : (rest : List Start) (before : List Start) (seen : List ℕ) (now : Start) (end : End) →
      GoesOn (next_hops files world) before (now ∷ rest) end → IsKnown before seen now.router → end ≢ Loop
  no_loop [] before seen now end goes known = λ is. back (subst (λ e. GoesOn (next_hops files world) before (now ∷ []) e)
      is goes) where
        back : Any (λ stood. stood.router ≡ now.router) before → ⊥
        back some =
            let found = some_member (λ (stood : Start). stood.router ≡ now.router) before some in
            new before seen now.router known (subst (λ r. In r seen) found.2 (known.noted found.0 found.1))
  no_loop (next ∷ rest) before seen now end goes known =
      no_loop rest (before ++ now ∷ []) (now.router ∷ seen) next end goes.1 (step before seen now next known goes.0)

  few : (before : List Start) (seen : List ℕ) (now : ℕ) → IsKnown before seen now → now < length files →
      length (now ∷ seen) ≤ length files
  few before seen now known inside =
      length-le_from_distinct_below (now ∷ seen) (length files)
      (IsDistinct-cons eqb now seen (apart_from now seen (new before seen now known)) known.apart)
      (λ q there. below q (in-from_any q (now ∷ seen) there))
    where
      below : (q : ℕ) → In q (now ∷ seen) → q < length files
      below q (inl same) = subst (λ r. r < length files) (sym same) inside
      below q (inr later) =
          let can = known.led q later in
          let led = leads files world interior q can.0 can.1 in slice_get_within files q led.file led.found

  -- a hop leads to a router of the network
  led_inside : (router : ℕ) (i : IfaceId) → Contains (next_hops files world router) (To i) → i.router < length files
  led_inside router i sends =
      ltb-true i.router (length files)
      (test-of_item (is_inside (length files)) (next_hops files world router) (To i)
      (next_hops_inside files world router) sends)

  not_long : (rest : List Start) (before : List Start) (seen : List ℕ) (now : Start) (end : End) →
      GoesOn (next_hops files world) before (now ∷ rest) end → IsKnown before seen now.router →
      now.router < length files → length seen + length (now ∷ rest) ≤ length files
  not_long [] before seen now end goes known inside =
      let some = few before seen now.router known inside in omega (arith, some)
  not_long (next ∷ rest) before seen now end goes known inside =
      let to = goes.0 in
      let later = not_long rest (before ++ now ∷ []) (now.router ∷ seen) next end goes.1
      (step before seen now next known to)
      (led_inside now.router (record { router = next.router; at = to.0 }) to.2) in
      omega (arith, later)

  first : (start : Start) → IsKnown [] [] start.router
  unfolding IsDistinct
  first start = record {
    apart = tt;
    led = λ q none. absurd none;
    noted = λ stood none. absurd none;
    ahead = λ can q none. absurd none;
  }

  pub not_looping : (hops : List Start) (end : End) → IsWalkOver files world hops end → end ≢ Loop
  not_looping [] end denied = λ is. subst (λ e. IsWalkOver files world [] e) is denied
  not_looping (start ∷ rest) end walk = no_loop rest [] [] start end walk.1 (first start)

  pub not_longer : (hops : List Start) (end : End) → IsWalkOver files world hops end → 1 < length hops →
      length hops ≤ length files
  not_longer [] end denied some = absurd (omega (arith, some))
  not_longer (start ∷ []) end walk some = absurd (omega (arith, some))
  not_longer (start ∷ next ∷ rest) end walk some =
      let to = walk.1.0 in
      let led = leads files world interior start.router (record { router = next.router; at = to.0 }) to.2 in
      let long = not_long (next ∷ rest) [] [] start end walk.1 (first start)
      (slice_get_within files start.router led.file led.found) in
      omega (arith, long)

pub some_cost : (files : List File) → list_all keeps_limits files ≡ true → All (λ a. 0 < a.cost) (adjacencies files)
some_cost files limits =
    All-weaker (λ a. (0 < a.cost) × (a.cost ≤ 65535)) (λ a. 0 < a.cost) (λ a both. both.0) (adjacencies files)
    (adjacency_costs files limits)

-- A walk that ends so is one to a router, where it may end.
use Rattle.std.proofs.Common.{◌≡◌, ◌⊎◌, inl, inr, ◌∙◌, ℕ, zero, suc, Bool, true, List, [], ◌∷◌, map}
use Rattle.std.proofs.Common.{Some, refl, sym, ap, subst}
use Rattle.std.specs.Prelude.{slice_get}
use Rattle.std.specs.List.{list_any}
use Rattle.std.proofs.lemmas.Bool.{or_cases, or_left, or_right}
use Rattle.std.proofs.lemmas.Option.{same_Some}
use Rattle.sym_forwarding.proofs.Edges.{sent_leads, sent_somewhere}
use Rattle.sym_forwarding.specs.Layers.{Forwarding, arriving, ends_or_sends, leads}
use Rattle.walk_def.specs.Marks.{known}
use Rattle.fate_terms.specs.Reaching.{Comes, MayEnd, Sends}

-- ---- hops, one before the others or one after them

stays : (table : List Forwarding) (router hops : ℕ) → Comes table router hops router
unfolding Comes
stays table router zero = refl
stays table router (suc hops) = inl (stays table router hops)

hop_before : (table : List Forwarding) (start next router hops : ℕ) → Sends table start next →
    Comes table next hops router → Comes table start (suc hops) router
unfolding Comes
hop_before table start next router zero sends comes =
    inr (start, refl, subst (Sends table start) comes sends)
hop_before table start next router (suc hops) sends (inl comes) =
    inl (hop_before table start next router hops sends comes)
hop_before table start next router (suc hops) sends (inr (via, comes, last)) =
    inr (via, hop_before table start next via hops sends comes, last)

first_hop : (table : List Forwarding) (start router hops : ℕ) → Comes table start (suc hops) router →
    (start ≡ router) ⊎ ((next : ℕ) × Sends table start next × Comes table next hops router)
unfolding Comes
first_hop table start router zero (inl here) = inl here
first_hop table start router zero (inr (via, here, last)) =
    inr (router, subst (λ (v : ℕ). Sends table v router) (sym here) last, refl)
first_hop table start router (suc hops) (inl comes) = by (first_hop table start router hops comes) where
  by : (start ≡ router) ⊎ ((next : ℕ) × Sends table start next × Comes table next hops router) →
      (start ≡ router) ⊎ ((next : ℕ) × Sends table start next × Comes table next (suc hops) router)
  by (inl here) = inl here
  by (inr (next, sends, rest)) = inr (next, sends, inl rest)
first_hop table start router (suc hops) (inr (via, comes, last)) = by (first_hop table start via hops comes) where
  by : (start ≡ via) ⊎ ((next : ℕ) × Sends table start next × Comes table next hops via) →
      (start ≡ router) ⊎ ((next : ℕ) × Sends table start next × Comes table next (suc hops) router)
  by (inl here) = inr (router, subst (λ (v : ℕ). Sends table v router) (sym here) last, stays table router (suc hops))
  by (inr (next, sends, rest)) = inr (next, sends, inr (via, rest, last))

-- ---- marks of tables

marked_of : (g : Forwarding → Bool) (table : List Forwarding) (router : ℕ) → known (map g table) router ≡ true →
    (f : Forwarding) × (slice_get table router ≡ Some f) × (g f ≡ true)
marked_of g [] router is = absurd cc
marked_of g (f ∷ fs) zero is = (f, refl, is)
marked_of g (f ∷ fs) (suc router) is = marked_of g fs router is

mark_of : (g : Forwarding → Bool) (table : List Forwarding) (router : ℕ) (f : Forwarding) →
    slice_get table router ≡ Some f → g f ≡ true → known (map g table) router ≡ true
mark_of g [] router f there is = absurd cc
mark_of g (x ∷ fs) zero f there is = ap g (same_Some x f there) ∙ is
mark_of g (x ∷ fs) (suc router) f there is = mark_of g fs router f there is

-- ---- walks

pub arriving_ends : (table : List Forwarding) (start hops : ℕ) → known (arriving table hops) start ≡ true →
    (router : ℕ) × Comes table start hops router × MayEnd table router
unfolding arriving Comes
arriving_ends table start zero is = (start, refl, marked_of (λ (f : Forwarding). f.ends) table start is)
arriving_ends table start (suc hops) is =
    let (f, there, on) = marked_of (ends_or_sends (arriving table hops)) table start is in
    by f there (or_cases f.ends (list_any (leads (arriving table hops)) f.next) on)
    (λ next mark. arriving_ends table next hops mark)
  where
    by : (f : Forwarding) → slice_get table start ≡ Some f →
        (f.ends ≡ true) ⊎ (list_any (leads (arriving table hops)) f.next ≡ true) →
        ((next : ℕ) → known (arriving table hops) next ≡ true →
        (router : ℕ) × Comes table next hops router × MayEnd table router) →
        (router : ℕ) × Comes table start (suc hops) router × MayEnd table router
    by f there (inl ends) rest = (start, stays table start (suc hops), (f, there, ends))
    by f there (inr sends) rest =
        let (next, sent, mark) = sent_somewhere (arriving table hops) f.next sends in
        let (router, comes, ends) = rest next mark in
        (router, hop_before table start next router hops (f, there, sent) comes, ends)

pub ends_arriving : (table : List Forwarding) (start hops router : ℕ) → Comes table start hops router →
    MayEnd table router → known (arriving table hops) start ≡ true
unfolding arriving Comes
ends_arriving table start zero router comes ends =
    let (f, there, is) = subst (MayEnd table) (sym comes) ends in
    mark_of (λ (f : Forwarding). f.ends) table start f there is
ends_arriving table start (suc hops) router comes ends =
    by (first_hop table start router hops comes) (λ next rest. ends_arriving table next hops router rest ends)
  where
    by : (start ≡ router) ⊎ ((next : ℕ) × Sends table start next × Comes table next hops router) →
        ((next : ℕ) → Comes table next hops router → known (arriving table hops) next ≡ true) →
        known (arriving table (suc hops)) start ≡ true
    by (inl here) mark =
        let (f, there, is) = subst (MayEnd table) (sym here) ends in
        mark_of (ends_or_sends (arriving table hops)) table start f there
        (or_left f.ends (list_any (leads (arriving table hops)) f.next) is)
    by (inr (next, (f, there, sends), rest)) mark =
        mark_of (ends_or_sends (arriving table hops)) table start f there
        (or_right f.ends (list_any (leads (arriving table hops)) f.next)
        (sent_leads (arriving table hops) next f.next sends (mark next rest)))

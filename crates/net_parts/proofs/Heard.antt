-- What a router makes of what it has received and heard: the same of the same, and by the tables what these say.
use Rattle.std.proofs.Common.{◌≡◌, ◌∙◌, ℕ, suc, ◌+◌, Bool, true, false, List, [], ◌∷◌, ◌++◌, Option, Some, None, refl}
use Rattle.std.proofs.Common.{add-zero, ap, arith, map, subst}
use Rattle.std.specs.Prelude.{◌==◌, filter, slice_get, option_and_then}
use Rattle.std.specs.List.{cons_option, enumerate_from, filter_map}
use Rattle.std.specs.Option.{option_map_or}
use Rattle.mw_text.specs.declared.address.Addr.{Addr}
use Rattle.mw_text.specs.declared.address.Prefix.{Prefix}
use Rattle.ios_ast.specs.declared.file.File.{File}
use Rattle.ios_ast.specs.declared.ospf.Ospf.{Ospf}
use Rattle.route_record.specs.declared.BgpMsg.{BgpMsg}
use Rattle.route_record.specs.declared.BgpRec.{BgpRec}
use Rattle.route_record.specs.declared.Failures.{Failures}
use Rattle.route_record.specs.declared.OspfRec.{OspfRec}
use Rattle.route_record.specs.declared.Tables.{Tables}
use Rattle.route_record.specs.Places.{slot_at}
use Rattle.net_parts.specs.declared.adjacencies.Adjacency.{Adjacency}
use Rattle.net_parts.specs.declared.sessions.SessionEnd.{SessionEnd}
use Rattle.net_parts.specs.Decisions.{candidates_from, learnt_candidate, local_candidate}
use Rattle.net_parts.specs.Ospf.{adjacencies, receives, up_adjacencies}
use Rattle.net_parts.specs.OspfRoutes.{extended, first_best, held_by_ospf, held_from, offer_heard, offer_over}
use Rattle.net_parts.specs.OspfRoutes.{own_origins}
use Rattle.net_parts.specs.Resolution.{session_up}
use Rattle.net_parts.specs.Sessions.{ends_of}

-- ---- lists by place

-- two functions that agree at each item which passes, with its place, give the same of all
same_numbered : {X Y : Type 0} (f g : ℕ × X → Option Y) (p : ℕ × X → Bool) (n : ℕ) (xs : List X) →
    ((k : ℕ) (x : X) → slice_get xs k ≡ Some x → p (n + k, x) ≡ true → f (n + k, x) ≡ g (n + k, x)) →
    filter_map f (filter p (enumerate_from n xs)) ≡ filter_map g (filter p (enumerate_from n xs))
same_numbered f g p n [] same = refl
same_numbered {X = X} f g p n (x ∷ xs) same =
    by (p (n, x)) refl (same_numbered f g p (n + 1) xs (λ k y e. let a : n + suc k ≡ n + 1 + k = omega arith in
    subst (λ j. p (j, y) ≡ true → f (j, y) ≡ g (j, y)) a (same (suc k) y e)))
  where
    by : (b : Bool) → p (n, x) ≡ b →
        filter_map f (filter p (enumerate_from (n + 1) xs)) ≡ filter_map g (filter p (enumerate_from (n + 1) xs)) →
        filter_map f (filter p (enumerate_from n (x ∷ xs))) ≡ filter_map g (filter p (enumerate_from n (x ∷ xs)))
    by true e more =
        let here : f (n, x) ≡ g (n, x) =
        subst (λ j. p (j, x) ≡ true → f (j, x) ≡ g (j, x)) (add-zero n) (same 0 x refl) e in
        rw e (ap (λ o. cons_option o (filter_map f (filter p (enumerate_from (n + 1) xs)))) here
        ∙ ap (λ r. cons_option (g (n, x)) r) more)
    by false e more = rw e more

-- what does not look at the places is made of the items alone
unnumbered : {X Y : Type 0} (g : X → Option Y) (p : X → Bool) (n : ℕ) (xs : List X) →
    filter_map (λ (e : ℕ × X). g e.1) (filter (λ (e : ℕ × X). p e.1) (enumerate_from n xs)) ≡ filter_map g (filter p xs)
unnumbered g p n [] = refl
unnumbered {X = X} {Y = Y} g p n (x ∷ xs) = by (p x) refl (unnumbered g p (n + 1) xs) where
  by : (b : Bool) → p x ≡ b →
      filter_map (λ (e : ℕ × X). g e.1) (filter (λ (e : ℕ × X). p e.1) (enumerate_from (n + 1) xs))
      ≡ filter_map g (filter p xs) →
      filter_map (λ (e : ℕ × X). g e.1) (filter (λ (e : ℕ × X). p e.1) (enumerate_from n (x ∷ xs)))
      ≡ filter_map g (filter p (x ∷ xs))
  by true e more = rw e (ap (λ r. cons_option (g x) r) more)
  by false e more = rw e more

-- ---- BGP

-- what was received over the sessions that are up settles the candidates
pub same_candidates : (files : List File) (failures : Failures) (ids : List Addr)
    (one other : ℕ → SessionEnd → Option BgpMsg) (router : ℕ) (p : Prefix) (local : List BgpRec) →
    ((at : ℕ) (end : SessionEnd) → slice_get (ends_of files) at ≡ Some end → session_up files failures end ≡ true →
    one at end ≡ other at end) →
    candidates_from files failures ids one router p local ≡ candidates_from files failures ids other router p local
unfolding candidates_from
same_candidates files failures ids one other router p local same =
    ap (λ learnt. map (local_candidate files router) local ++ learnt)
    (same_numbered (λ (e : ℕ × SessionEnd). learnt_candidate files failures ids p e.0 e.1 (one e.0 e.1))
    (λ (e : ℕ × SessionEnd). learnt_candidate files failures ids p e.0 e.1 (other e.0 e.1))
    (λ (e : ℕ × SessionEnd). e.1.router == router) 0 (ends_of files)
    (λ k end there passes. let at : k ≡ 0 + k = omega arith in
    subst (λ j. learnt_candidate files failures ids p j end (one j end)
    ≡ learnt_candidate files failures ids p j end (other j end)) at
    (by (session_up files failures end) k end refl there)))
  where
    by : (up : Bool) → (k : ℕ) (end : SessionEnd) → session_up files failures end ≡ up →
        slice_get (ends_of files) k ≡ Some end →
        learnt_candidate files failures ids p k end (one k end)
        ≡ learnt_candidate files failures ids p k end (other k end)
    by true k end is there =
        ap (λ received. learnt_candidate files failures ids p k end received) (same k end there is)
    by false k end is there = rw is refl

-- ---- OSPF

-- what was heard over the adjacencies that are up settles the held record
pub same_held : (files : List File) (failures : Failures) (one other : ℕ → Adjacency → Option OspfRec) (router : ℕ)
    (origins : List OspfRec) →
    ((at : ℕ) (a : Adjacency) → slice_get (adjacencies files) at ≡ Some a → receives files failures router a ≡ true →
    one at a ≡ other at a) →
    held_from files failures one router origins ≡ held_from files failures other router origins
unfolding held_from
same_held files failures one other router origins same =
    ap (λ offers. first_best (origins ++ offers))
    (same_numbered (offer_heard one) (offer_heard other)
    (λ (over : ℕ × Adjacency). receives files failures router over.1) 0 (adjacencies files)
    (λ k a there passes. let at : k ≡ 0 + k = omega arith in
    subst (λ j. offer_heard one (j, a) ≡ offer_heard other (j, a)) at
    (ap (option_and_then (extended a.cost)) (same k a there passes))))

-- by the tables a router holds the first best of its own origins and of what is offered to it
pub held_by_offers : (files : List File) (failures : Failures) (tables : Tables) (router : ℕ) (file : File)
    (process : Ospf) (p : Prefix) →
    held_by_ospf files failures tables router file process p
    ≡ first_best (option_map_or (own_origins files failures router file process p) (slot_at tables router p.len) []
    ++ filter_map (offer_over tables p) (up_adjacencies files failures router))
unfolding held_by_ospf held_from up_adjacencies
held_by_offers files failures tables router file process p =
    ap (λ offers. first_best (option_map_or (own_origins files failures router file process p)
    (slot_at tables router p.len) [] ++ offers))
    (unnumbered (offer_over tables p) (receives files failures router) 0 (adjacencies files))

-- Reasons get their clauses' new references.
use Rattle.std.specs.Prelude.{ℕ, ◌≡◌, ◌+◌, ◌<◌, List, [], ◌∷◌, ◌++◌, length, map, take, drop, refl}
use Rattle.std.specs.Prelude.{Option, Some, None, IfSome}
use Rattle.std.specs.List.{All}
use Rattle.std.specs.Option.{option_map}
use Rattle.std.proofs.Common.{◌∙◌, ap, arith, get_or}
use Rattle.std.proofs.lemmas.List.Elements.{All-nil, All-head, All-tail, All-cons}
use Rattle.std.proofs.lemmas.List.{get_or_default}
use Rattle.std.proofs.Math.ListN.{set}
use Rattle.std.proofs.lemmas.List.Edits.{map_over_more}
use Rattle.clause_arena.specs.declared.names.ClauseRef.{ClauseRef}
use Rattle.clause_arena.specs.Store.{Store}
use Rattle.clause_arena.specs.Held.{IsHeld, number_of}
use Rattle.clause_arena.specs.Compacted.{reason_renamed, Compacts}

pub mapped_more : {X : Type 0} (f : X → X) (xs ys : List X) (i : ℕ) (v d : X) → i < length xs → length ys ≡ length xs
    → ys ≡ map f (take i xs) ++ drop i xs → v ≡ f (get_or ys i d)
    → set ys i v ≡ map f (take (i + 1) xs) ++ drop (i + 1) xs
mapped_more f xs ys i v d h l e is =
    ap (set ys i) is
    ∙ map_over_more f xs ys i (get_or ys i d) h e (get_or_default ys i d (get_or ys i d) (omega arith))

-- ---- what a reason's clause is

reason_number : (old new : Store) (r : Option ClauseRef) → Compacts old new → IfSome r (IsHeld old)
    → option_map (number_of new) (reason_renamed old.refs new.refs r) ≡ option_map (number_of old) r
reason_number old new None c h = refl
reason_number old new (Some r) c h = ap Some (c.same r.0 h).number

reason_held : (old new : Store) (r : Option ClauseRef) → Compacts old new → IfSome r (IsHeld old)
    → IfSome (reason_renamed old.refs new.refs r) (IsHeld new)
reason_held old new None c h = h
reason_held old new (Some r) c h = c.held r.0 h

-- each reason's clause has the number that it had
pub reasons_numbers : (old new : Store) (reasons : List (Option ClauseRef)) → Compacts old new
    → All (λ r. IfSome r (IsHeld old)) reasons
    → map (option_map (number_of new)) (map (reason_renamed old.refs new.refs) reasons)
    ≡ map (option_map (number_of old)) reasons
reasons_numbers old new [] c h = refl
reasons_numbers old new (r ∷ rs) c h =
    let P = λ (q : Option ClauseRef). IfSome q (IsHeld old) in
    let here : option_map (number_of new) (reason_renamed old.refs new.refs r) ≡ option_map (number_of old) r =
    reason_number old new r c (All-head P r rs h) in
    let rest : map (option_map (number_of new)) (map (reason_renamed old.refs new.refs) rs)
    ≡ map (option_map (number_of old)) rs = reasons_numbers old new rs c (All-tail P r rs h) in
    cc

-- each reason's clause is held
pub reasons_held : (old new : Store) (reasons : List (Option ClauseRef)) → Compacts old new
    → All (λ r. IfSome r (IsHeld old)) reasons
    → All (λ r. IfSome r (IsHeld new)) (map (reason_renamed old.refs new.refs) reasons)
reasons_held old new [] c h = All-nil (λ (q : Option ClauseRef). IfSome q (IsHeld new))
reasons_held old new (r ∷ rs) c h =
    let P = λ (q : Option ClauseRef). IfSome q (IsHeld old) in
    All-cons (λ (q : Option ClauseRef). IfSome q (IsHeld new)) (reason_renamed old.refs new.refs r)
    (map (reason_renamed old.refs new.refs) rs) (reason_held old new r c (All-head P r rs h))
    (reasons_held old new rs c (All-tail P r rs h))

-- Forwardings that stand for lists of next hops: one hop, none, and one of two lists.
use Rattle.std.proofs.Common.{◌≡◌, Bool, true, false, ◌&&◌, ◌||◌, not, cond, List, [], ◌∷◌, ◌++◌, refl, sym}
use Rattle.std.proofs.Common.{ap, subst, ◌∙◌}
use Rattle.std.specs.List.{list_any}
use Rattle.std.proofs.lemmas.List.Folds.{list_any-append}
use Rattle.std.proofs.Math.Bool.{or-false}
use Rattle.question_lang.specs.declared.walk.End.{End}
use Rattle.question_lang.specs.declared.walk.End.TheVariants.{DeniedIn}
use Rattle.question_lang.specs.declared.walk.Hop.{Hop}
use Rattle.question_lang.specs.declared.walk.Hop.TheVariants.{To, Ends}
use Rattle.net_interfaces.specs.declared.interfaces.IfaceId.{IfaceId}
use Rattle.sym_forwarding.specs.Choices.{IsChosen, IsUnion}
use Rattle.sym_forwarding.specs.Forwardings.{sends_to}
use Rattle.sym_forwarding.specs.Layers.{Forwarding, silent}
use Rattle.sym_forwarding.specs.Twins.{IsTwin, ends_as, leads_to}

-- the choice between two forwardings stands for the choice between their lists
pub chosen_twin : (sought : End → Bool) (c : Bool) (xs ys : List Hop) (a b f : Forwarding) → IsTwin sought xs a →
    IsTwin sought ys b → IsChosen c a b f → IsTwin sought (cond c xs ys) f
chosen_twin sought true xs ys a b f first second is = record {
  sends = λ router. is.goes router ∙ first.sends router;
  ends = is.ends ∙ first.ends;
}
chosen_twin sought false xs ys a b f first second is = record {
  sends = λ router. is.goes router ∙ second.sends router;
  ends = is.ends ∙ second.ends;
}

pub silent_twin : (sought : End → Bool) → IsTwin sought [] silent
silent_twin sought = record { sends = λ router. refl; ends = refl }

-- a router that ends walks so
pub end_twin : (sought : End → Bool) (end : End) (b : Bool) → b ≡ sought end →
    IsTwin sought (Ends end ∷ []) (record { next = []; ends = b })
end_twin sought end b same = record { sends = λ router. refl; ends = same ∙ sym (or-false (sought end)) }

-- one that sends in at an interface where the packet is permitted, and else ends walks there
pub arrive_twin : (sought : End → Bool) (i : IfaceId) (permit ends : Bool) → ends ≡
    (not permit && sought (DeniedIn i)) →
    IsTwin sought (cond permit (To i) (Ends (DeniedIn i)) ∷ [])
    (record { next = record { when = permit; to = i.router } ∷ []; ends = ends })
arrive_twin sought i true ends same = record { sends = λ router. refl; ends = same }
arrive_twin sought i false ends same = record {
  sends = λ router. refl;
  ends = same ∙ sym (or-false (sought (DeniedIn i)));
}

-- a choice between two hops
pub chosen_hop : (sought : End → Bool) (c : Bool) (x y : Hop) (a b f : Forwarding) → IsTwin sought (x ∷ []) a →
    IsTwin sought (y ∷ []) b → IsChosen c a b f → IsTwin sought (cond c x y ∷ []) f
chosen_hop sought true x y a b f first second is = chosen_twin sought true (x ∷ []) (y ∷ []) a b f first second is
chosen_hop sought false x y a b f first second is = chosen_twin sought false (x ∷ []) (y ∷ []) a b f first second is

-- a choice by a condition that is known
pub chosen_by : (sought : End → Bool) (c test : Bool) (x y : Hop) (a b f : Forwarding) → IsChosen c a b f → c ≡ test →
    IsTwin sought (x ∷ []) a → IsTwin sought (y ∷ []) b → IsTwin sought (cond test x y ∷ []) f
chosen_by sought c test x y a b f is same first second =
    let Q : Bool → Type 0 = λ t. IsTwin sought (cond t x y ∷ []) f in
    subst Q same (chosen_hop sought c x y a b f first second is)

pub chosen_lists : (sought : End → Bool) (c test : Bool) (xs ys : List Hop) (a b f : Forwarding) → IsChosen c a b f →
    c ≡ test → IsTwin sought xs a → IsTwin sought ys b → IsTwin sought (cond test xs ys) f
chosen_lists sought c test xs ys a b f is same first second =
    let Q : Bool → Type 0 = λ t. IsTwin sought (cond t xs ys) f in
    subst Q same (chosen_twin sought c xs ys a b f first second is)

-- a choice by a condition, where the first list is known under it alone
pub chosen_where : (sought : End → Bool) (c test : Bool) (xs ys : List Hop) (a b f : Forwarding) → IsChosen c a b f →
    c ≡ test → (test ≡ true → IsTwin sought xs a) → IsTwin sought ys b → IsTwin sought (cond test xs ys) f
chosen_where sought c true xs ys a b f is same first second =
    chosen_lists sought c true xs ys a b f is same (first refl) second
chosen_where sought c false xs ys a b f is same first second =
    let Q : Bool → Type 0 = λ t. IsChosen t a b f in
    let off = subst Q same is in
    record { sends = λ router. off.goes router ∙ second.sends router; ends = off.ends ∙ second.ends }

-- both forwardings stand for both lists
pub joined_twin : (sought : End → Bool) (xs ys : List Hop) (a b : Forwarding) → IsTwin sought xs a →
    IsTwin sought ys b →
    IsTwin sought (xs ++ ys) (record { next = a.next ++ b.next; ends = a.ends || b.ends })
joined_twin sought xs ys a b first second = record {
  sends = λ router.
      list_any-append (sends_to router) a.next b.next
      ∙ ap (λ x. x || list_any (sends_to router) b.next) (first.sends router)
      ∙ ap (λ x. list_any (leads_to router) xs || x) (second.sends router)
      ∙ sym (list_any-append (leads_to router) xs ys);
  ends = ap (λ x. x || b.ends) first.ends ∙ ap (λ x. list_any (ends_as sought) xs || x) second.ends
      ∙ sym (list_any-append (ends_as sought) xs ys);
}

-- a second list under a condition, before the first one
pub united_twin : (sought : End → Bool) (c test : Bool) (xs ys : List Hop) (a b f : Forwarding) → IsUnion c a b f →
    c ≡ test → IsTwin sought xs a → IsTwin sought ys b → IsTwin sought (cond test ys [] ++ xs) f
united_twin sought c true xs ys a b f is same first second = record {
  sends = λ router.
      is.goes router
      ∙ ap (λ x. list_any (sends_to router) a.next || (x && list_any (sends_to router) b.next)) same
      ∙ ap (λ x. x || list_any (sends_to router) b.next) (first.sends router)
      ∙ ap (λ x. list_any (leads_to router) xs || x) (second.sends router)
      ∙ or_swap (list_any (leads_to router) xs) (list_any (leads_to router) ys)
      ∙ sym (list_any-append (leads_to router) ys xs);
  ends = is.ends ∙ ap (λ x. a.ends || (x && b.ends)) same ∙ ap (λ x. x || b.ends) first.ends
      ∙ ap (λ x. list_any (ends_as sought) xs || x) second.ends
      ∙ or_swap (list_any (ends_as sought) xs) (list_any (ends_as sought) ys)
      ∙ sym (list_any-append (ends_as sought) ys xs);
} where
  or_swap : (x y : Bool) → (x || y) ≡ (y || x)
  or_swap true true = refl
  or_swap true false = refl
  or_swap false true = refl
  or_swap false false = refl
united_twin sought c false xs ys a b f is same first second = record {
  sends = λ router.
      is.goes router
      ∙ ap (λ x. list_any (sends_to router) a.next || (x && list_any (sends_to router) b.next)) same
      ∙ or-false (list_any (sends_to router) a.next) ∙ first.sends router;
  ends = is.ends ∙ ap (λ x. a.ends || (x && b.ends)) same ∙ or-false a.ends ∙ first.ends;
}

-- a router whose walks never end as sought, and that sends nowhere
pub still_twin : (b : Bool) → b ≡ false → (sought : End → Bool) → IsTwin sought [] (record { next = []; ends = b })
still_twin b never sought = record { sends = λ router. refl; ends = never }

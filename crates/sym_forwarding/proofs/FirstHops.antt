-- What the first of some interfaces that passes a test leads to, one interface at a time.
use Rattle.std.proofs.Common.{◌≡◌, ℕ, ◌+◌, ◌<◌, ◌≤◌, Bool, true, false, ◌&&◌, ◌||◌, not, cond, List, [], ◌∷◌, ◌++◌}
use Rattle.std.proofs.Common.{length}
use Rattle.std.proofs.Common.{get_or, take, Option, Some, None, refl, sym, ap, ap₂, subst, ◌∙◌, eqb}
use Rattle.std.specs.Prelude.{filter, option_map}
use Rattle.std.specs.List.{find, list_any}
use Rattle.std.specs.Option.{option_map_or}
use Rattle.std.proofs.lemmas.Bool.{and_right}
use Rattle.std.proofs.lemmas.List.{append-nil, take_all, take_more}
use Rattle.std.proofs.lemmas.List.Folds.{list_any-append}
use Rattle.std.proofs.Math.Bool.{or-false}
use Rattle.mw_text.specs.declared.address.Addr.{Addr}
use Rattle.mw_text.specs.declared.address.Prefix.{Prefix}
use Rattle.mw_text.specs.Address.{covers, same_prefix}
use Rattle.ios_ast.specs.declared.file.File.{File}
use Rattle.route_record.specs.declared.Failures.{Failures}
use Rattle.route_record.specs.declared.Packet.{Packet}
use Rattle.net_interfaces.specs.declared.interfaces.Addressed.{Addressed}
use Rattle.net_interfaces.specs.Interfaces.{addressed}
use Rattle.net_parts.specs.Routing.{up_interfaces}
use Rattle.net_parts.specs.World.{is_up}
use Rattle.question_lang.specs.declared.walk.End.{End}
use Rattle.question_lang.specs.declared.walk.Hop.{Hop}
use Rattle.question_lang.specs.Hops.{all_up, arrive, owner_on, send_over, send_to}
use Rattle.sym_ospf.proofs.Reach.{reached_is}
use Rattle.sym_forwarding.specs.Choices.{IsUnion}
use Rattle.sym_forwarding.specs.Firsts.{IsFirst, first_hop, is_owner, owner_arrives, reaches, sent_to}
use Rattle.sym_forwarding.specs.Layers.{Forwarding}
use Rattle.sym_forwarding.specs.Owners.{has_address}
use Rattle.sym_forwarding.specs.Twins.{IsTwin}
use Rattle.sym_forwarding.proofs.Twins.{united_twin}

-- the hop of the first, with one interface more
later : (test : Addressed → Bool) (hop : Addressed → Hop) (x : Addressed) (xs : List Addressed) →
    cond (not (list_any test xs) && test x) (hop x ∷ []) [] ++ first_hop test hop xs
    ≡ first_hop test hop (xs ++ x ∷ [])
later test hop x [] = by_test (test x) where
  by_test : (b : Bool) →
      cond b (hop x ∷ []) [] ++ [] ≡ option_map_or (λ y. hop y ∷ []) (cond b (Some x) None) []
  by_test true = refl
  by_test false = refl
later test hop x (y ∷ ys) = by_first (test y) (later test hop x ys) where
  by_first : (b : Bool) → (cond (not (list_any test ys) && test x) (hop x ∷ []) [] ++ first_hop test hop ys
      ≡ first_hop test hop (ys ++ x ∷ [])) →
      cond (not (b || list_any test ys) && test x) (hop x ∷ []) []
      ++ option_map_or (λ z. hop z ∷ []) (cond b (Some y) (find test ys)) []
      ≡ option_map_or (λ z. hop z ∷ []) (cond b (Some y) (find test (ys ++ x ∷ []))) []
  by_first true rest = refl
  by_first false rest = rest

any_later : (test : Addressed → Bool) (x : Addressed) (xs : List Addressed) →
    (list_any test xs || test x) ≡ list_any test (xs ++ x ∷ [])
any_later test x xs =
    ap (λ b. list_any test xs || b) (sym (or-false (test x))) ∙ sym (list_any-append test xs (x ∷ []))

-- no interface
pub none_first : (sought : End → Bool) (test : Addressed → Bool) (hop : Addressed → Hop) (found : Bool)
    (f : Forwarding) → found ≡ false → IsTwin sought [] f → IsFirst sought test hop [] found f
none_first sought test hop found f never twin = record { any = never; to = twin }

-- one interface more
pub first_more : (sought : End → Bool) (test : Addressed → Bool) (hop : Addressed → Hop) (xs : List Addressed)
    (x : Addressed) (before passes now c : Bool) (f g h : Forwarding) → IsFirst sought test hop xs before f →
    passes ≡ test x → IsTwin sought (hop x ∷ []) g → c ≡ (not before && passes) → now ≡ (before || passes) →
    IsUnion c f g h → IsFirst sought test hop (xs ++ x ∷ []) now h
first_more sought test hop xs x before passes now c f g h first is twin guard either union =
    let there : c ≡ (not (list_any test xs) && test x) = guard ∙ ap₂ (λ b d. not b && d) first.any is in
    let P : List Hop → Type 0 = λ hops. IsTwin sought hops h in
    record {
      any = either ∙ ap₂ (λ b d. b || d) first.any is ∙ any_later test x xs;
      to = subst P (later test hop x xs)
          (united_twin sought c (not (list_any test xs) && test x) (first_hop test hop xs) (hop x ∷ []) f g h union
          there first.to twin);
    }

-- one that does not pass
pub first_past : (sought : End → Bool) (test : Addressed → Bool) (hop : Addressed → Hop) (xs : List Addressed)
    (x : Addressed) (before : Bool) (f : Forwarding) → test x ≡ false → IsFirst sought test hop xs before f →
    IsFirst sought test hop (xs ++ x ∷ []) before f
first_past sought test hop xs x before f fails first =
    let P : List Hop → Type 0 = λ hops. IsTwin sought hops f in
    record {
      any = first.any ∙ sym (or-false (list_any test xs)) ∙ ap (λ b. list_any test xs || b) (sym fails)
          ∙ any_later test x xs;
      to = subst P
          (sym (none_added (list_any test xs) (test x) (hop x ∷ []) (first_hop test hop xs) fails)
          ∙ later test hop x xs) first.to;
    } where
      none_added : (a t : Bool) (ys zs : List Hop) → t ≡ false → cond (not a && t) ys [] ++ zs ≡ zs
      none_added true t ys zs never = refl
      none_added false t ys zs never = ap (λ b. cond b ys [] ++ zs) never

-- the first, or another forwarding where there is none
pub else_twin : (sought : End → Bool) (test : Addressed → Bool) (hop : Addressed → Hop) (xs : List Addressed)
    (any : Bool) (others : List Hop) (f g h : Forwarding) → IsFirst sought test hop xs any f →
    IsTwin sought others g → IsUnion (not any) f g h →
    IsTwin sought (cond (list_any test xs) (first_hop test hop xs) others) h
else_twin sought test hop xs any others f g h first twin union =
    let P : List Hop → Type 0 = λ hops. IsTwin sought hops h in
    subst P (first_or test hop xs others)
    (united_twin sought (not any) (not (list_any test xs)) (first_hop test hop xs) others f g h union
    (ap not first.any) first.to twin)
  where
    first_or : (test : Addressed → Bool) (hop : Addressed → Hop) (xs : List Addressed) (others : List Hop) →
        cond (not (list_any test xs)) others [] ++ first_hop test hop xs
        ≡ cond (list_any test xs) (first_hop test hop xs) others
    first_or test hop [] others = append-nil others
    first_or test hop (y ∷ ys) others = by_first (test y) (first_or test hop ys others) where
      by_first : (b : Bool) → (cond (not (list_any test ys)) others [] ++ first_hop test hop ys
          ≡ cond (list_any test ys) (first_hop test hop ys) others) →
          cond (not (b || list_any test ys)) others []
          ++ option_map_or (λ z. hop z ∷ []) (cond b (Some y) (find test ys)) []
          ≡ cond (b || list_any test ys) (option_map_or (λ z. hop z ∷ []) (cond b (Some y) (find test ys)) []) others
      by_first true rest = refl
      by_first false rest = rest

-- the interfaces so far, with the next one, and all of them
pub taken_more : (all xs : List Addressed) (i : ℕ) (d : Addressed) → all ≡ xs → i < length all →
    take i xs ++ get_or all i d ∷ [] ≡ take (i + 1) xs
taken_more all xs i d same within =
    ap (λ ys. take i ys ++ get_or all i d ∷ []) (sym same) ∙ sym (take_more all i d within) ∙ ap (take (i + 1)) same

pub taken_all : (all xs : List Addressed) (i : ℕ) → all ≡ xs → length all ≤ i → take i xs ≡ xs
taken_all all xs i same past = ap (take i) (sym same) ∙ take_all i all past ∙ same

-- ---- over an interface of the router

found_kept : (own has : Addressed → Bool) (xs : List Addressed) →
    find (λ x. own x && has x) xs ≡ find has (filter own xs)
found_kept own has [] = refl
found_kept own has (x ∷ xs) = by_own (own x) (found_kept own has xs) where
  by_own : (b : Bool) → find (λ y. own y && has y) xs ≡ find has (filter own xs) →
      cond (b && has x) (Some x) (find (λ y. own y && has y) xs) ≡ find has (cond b (x ∷ filter own xs) (filter own xs))
  by_own true rest = ap (λ o. cond (has x) (Some x) o) rest
  by_own false rest = rest

pub sent_over : (files : List File) (failures : Failures) (packet : Packet) (router : ℕ) (a : Addr) →
    first_hop (reaches files failures router a) (sent_to files failures packet a) (addressed files)
    ≡ send_over files packet (all_up files failures) (up_interfaces files failures router) a
sent_over files failures packet router a =
    ap (λ o. option_map_or (λ out. send_to files packet (all_up files failures) out a ∷ []) o [])
    (found_kept (λ (x : Addressed). eqb x.id.router router && is_up files failures x)
    (λ (x : Addressed). covers x.subnet a) (addressed files))

pub reached_any : (files : List File) (failures : Failures) (router : ℕ) (a : Addr) →
    list_any (reaches files failures router a) (addressed files)
    ≡ list_any (λ x. covers x.subnet a) (up_interfaces files failures router)
reached_any = reached_is

-- ---- the router that has an address on a subnet

-- an interface on another subnet has not the address there
pub not_owner : (files : List File) (failures : Failures) (subnet : Prefix) (a : Addr) (x : Addressed) →
    same_prefix x.subnet subnet ≡ false → is_owner files failures subnet a x ≡ false
not_owner files failures subnet a x other =
    and_right (is_up files failures x) (has_address subnet a x)
    (and_right (eqb x.addr.0 a.0) (same_prefix x.subnet subnet) other)

pub owner_first : (files : List File) (failures : Failures) (packet : Packet) (subnet : Prefix) (a : Addr)
    (other : Hop) (xs : List Addressed) →
    cond (list_any (is_owner files failures subnet a) xs)
    (first_hop (is_owner files failures subnet a) (owner_arrives files packet) xs) (other ∷ [])
    ≡ option_map_or (arrive files packet) (owner_on (filter (is_up files failures) xs) subnet a) other ∷ []
owner_first files failures packet subnet a other [] = refl
owner_first files failures packet subnet a other (x ∷ xs) =
    by_up (is_up files failures x) (owner_first files failures packet subnet a other xs) where
      up : Addressed → Bool
      up = is_up files failures

      has : Addressed → Bool
      has = has_address subnet a

      test : Addressed → Bool
      test = is_owner files failures subnet a

      hop : Addressed → Hop
      hop = owner_arrives files packet

      Same : List Addressed → Bool → Option Addressed → Type 0
      Same kept any found =
          cond any (option_map_or (λ z. hop z ∷ []) found []) (other ∷ [])
          ≡ option_map_or (arrive files packet) (option_map (λ z. z.id) (find has kept)) other ∷ []

      by_has : (b : Bool) → Same (filter up xs) (list_any test xs) (find test xs) →
          cond (b || list_any test xs) (option_map_or (λ z. hop z ∷ []) (cond b (Some x) (find test xs)) [])
          (other ∷ [])
          ≡ option_map_or (arrive files packet) (option_map (λ z. z.id) (cond b (Some x) (find has (filter up xs))))
          other ∷ []
      by_has true rest = refl
      by_has false rest = rest

      by_up : (u : Bool) → Same (filter up xs) (list_any test xs) (find test xs) →
          Same (cond u (x ∷ filter up xs) (filter up xs)) ((u && has x) || list_any test xs)
          (cond (u && has x) (Some x) (find test xs))
      by_up true rest = by_has (has x) rest
      by_up false rest = rest

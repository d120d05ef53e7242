-- From which routers a walk ends as a question asks.
use Rattle.std.proofs.Common.{◌≡◌, ℕ, zero, suc, ◌<◌, true, List, [], ◌∷◌, ◌++◌, length, map, ◌⊎◌, inl}
use Rattle.std.proofs.Common.{inr, Some}
use Rattle.std.proofs.Common.{refl, sym, ap, subst, arith, ◌∙◌}
use Rattle.std.specs.Prelude.{Contains, slice_get}
use Rattle.std.proofs.lemmas.Bool.{or_cases, or_left, or_right}
use Rattle.std.proofs.lemmas.List.{length-map}
use Rattle.mw_text.proofs.Lists.{item_there}
use Rattle.net_interfaces.specs.declared.interfaces.IfaceId.{IfaceId}
use Rattle.question_lang.specs.declared.question.Start.{Start}
use Rattle.question_lang.specs.declared.walk.End.{End}
use Rattle.question_lang.specs.declared.walk.Hop.{Hop}
use Rattle.question_lang.specs.declared.walk.Hop.TheVariants.{To, Ends}
use Rattle.question_lang.specs.Walks.{GoesOn}
use Rattle.walk_def.proofs.Members.{last-same}
use Rattle.walk_def.specs.Arriving.{LastIn}
use Rattle.walk_def.specs.Marks.{is_end, known}
use Rattle.walk_def.proofs.Ends.{may_end, must_end}
use Rattle.sym_forwarding.specs.Layers.{Forwarding, arrives, arriving, ends_or_sends, sends_on}
use Rattle.sym_forwarding.proofs.Edges.{Stands, leading, led, sends_below}
use Rattle.mw_text.specs.Members.{count}
use Rattle.mw_text.proofs.Numbers.{count_few}
use Rattle.sym_forwarding.proofs.Marks.{Below, known_mapped, mapped_known, same_or_more}

-- ---- the layers settle

arriving_long : (table : List Forwarding) (k : ℕ) → length (arriving table k) ≡ length table
unfolding arriving
arriving_long table zero = length-map table (λ f. f.ends)
arriving_long table (suc k) = length-map table (ends_or_sends (arriving table k))

-- each layer has the marks of the one before it
arriving_more : (table : List Forwarding) (k : ℕ) → Below (arriving table k) (arriving table (suc k))
unfolding arriving
arriving_more table zero router h =
    let found = known_mapped (λ f. f.ends) table router h in
    mapped_known (ends_or_sends (arriving table zero)) table router found.0 found.1
    (or_left found.0.ends (sends_on (arriving table zero) found.0) found.2)
arriving_more table (suc k) router h =
    let found = known_mapped (ends_or_sends (arriving table k)) table router h in
    let f = found.0 in
    mapped_known (ends_or_sends (arriving table (suc k))) table router f found.1
    (elim (or_cases f.ends (sends_on (arriving table k) f) found.2) [
      | inl ends ↦ or_left f.ends (sends_on (arriving table (suc k)) f) ends
      | inr sends ↦ or_right f.ends (sends_on (arriving table (suc k)) f)
          (sends_below (arriving table k) (arriving table (suc k)) (arriving_more table k) f sends)
    ])

next_or_more : (table : List Forwarding) (k : ℕ) →
    (arriving table k ≡ arriving table (suc k)) ⊎ (count (arriving table k) < count (arriving table (suc k)))
next_or_more table k =
    same_or_more (arriving table k) (arriving table (suc k)) (arriving_long table k ∙ sym (arriving_long table (suc k)))
    (arriving_more table k)

settled : (table : List Forwarding) (k : ℕ) →
    (arriving table k ≡ arriving table (suc k)) ⊎ (k < count (arriving table (suc k)))
unfolding arriving
settled table zero = elim (next_or_more table zero) [ inl same ↦ inl same | inr less ↦ inr (omega arith) ]
settled table (suc k) =
    elim (settled table k) [
      | inl same ↦ inl (ap (λ marks. map (ends_or_sends marks) table) same)
      | inr enough ↦ elim (next_or_more table (suc k)) [ inl same ↦ inl same | inr less ↦ inr (omega arith) ]
    ]

-- one layer more marks no router that is new
pub all_arrived : (table : List Forwarding) → arriving table (length table) ≡ arriving table (suc (length table))
all_arrived table =
    elim (settled table (length table)) [
      | inl same ↦ same
      | inr enough ↦ absurd
          (
          let most = count_few (arriving table (suc (length table))) in
          let long = arriving_long table (suc (length table)) in omega (arith, most, long)
          )
    ]

pub arriving-suc : (table : List Forwarding) (k : ℕ) → arriving table (suc k)
    ≡ map (ends_or_sends (arriving table k)) table
unfolding arriving
arriving-suc table k = refl

-- a router at which a walk may end so, or that leads to one from which one does, is marked
arrives_by : (table : List Forwarding) (router : ℕ) (f : Forwarding) → slice_get table router ≡ Some f →
    ends_or_sends (arriving table (length table)) f ≡ true → arrives table router ≡ true
arrives_by table router f found h =
    ap (λ marks. known marks router) (all_arrived table ∙ arriving-suc table (length table))
    ∙ mapped_known (ends_or_sends (arriving table (length table))) table router f found h

-- ---- ends of walks

-- ---- a walk that ends so makes its start marked

pub arrives_from : {Sought : ℕ → End → Type 0} (hops : ℕ → List Hop) (table : List Forwarding)
    → Stands hops Sought table →
    (before : List Start) (now : Start) (rest : List Start) (end : End) → is_end end ≡ true →
    GoesOn hops before (now ∷ rest) end → LastIn (λ r. Sought r end) (now ∷ rest) → arrives table now.router ≡ true
arrives_from {Sought} hops table stands before now [] end proper may (front, last, same, sought) =
    let is_last : now ≡ last = last-same [] front now last same in
    let has = must_end hops before now end proper may in
    let there = item_there table now.router (stands.own now.router (Ends end) has) in
    let P : Start → Type 0 = λ s. Sought s.router end in
    let ends = (stands.each now.router there.0 there.1).all_ends end has (subst P (sym is_last) sought) in
    arrives_by table now.router there.0 there.1
    (or_left there.0.ends (sends_on (arriving table (length table)) there.0) ends)
arrives_from hops table stands before now (then ∷ rest) end proper ((at, _, has), on) ([], last, same, sought) = cc
arrives_from hops table stands before now (then ∷ rest) end proper ((at, _, has), on) (
  first
      ∷ front,
  last,
  same,
  sought,
) =
    let later : then ∷ rest ≡ front ++ last ∷ [] = cc in
    let marks = arriving table (length table) in
    let further =
    arrives_from hops table stands (before ++ now ∷ []) then rest end proper on (front, last, later, sought) in
    let (f, found, sends) =
    leading hops table stands marks now.router (record { router = then.router; at = at }) has further in
    arrives_by table now.router f found (or_right f.ends (sends_on marks f) sends)

-- ---- from a marked router a walk ends so

-- a walk from this standing, that ends so
pub record Arrival (hops : ℕ → List Hop) (Sought : ℕ → End → Type 0) (before : List Start) (now : Start) : Type 0 where
  pub rest : List Start
  pub end : End
  pub proper : is_end end ≡ true
  pub goes : GoesOn hops before (now ∷ rest) end
  pub last : LastIn (λ r. Sought r end) (now ∷ rest)

ends_here : {Sought : ℕ → End → Type 0} (hops : ℕ → List Hop) (table : List Forwarding) → Stands hops Sought table →
    (router : ℕ) (f : Forwarding) → slice_get table router ≡ Some f → f.ends ≡ true →
    (before : List Start) (now : Start) → now.router ≡ router → Arrival hops Sought before now
ends_here {Sought} hops table stands router f found ends before now here =
    let (end, has, sought) = (stands.each router f found).ends ends in
    let proper : is_end end ≡ true = stands.inside router (Ends end) has in
    let P : ℕ → Type 0 = λ r. Contains (hops r) (Ends end) in
    let Q : ℕ → Type 0 = λ r. Sought r end in
    record {
      rest = [];
      end = end;
      proper = proper;
      goes = may_end hops before now end proper (subst P (sym here) has);
      last = ([], now, refl, subst Q (sym here) sought);
    }

one_further : {Sought : ℕ → End → Type 0} (hops : ℕ → List Hop) (before : List Start) (now : Start) (i : IfaceId) →
    Contains (hops now.router) (To i) →
    Arrival hops Sought (before ++ now ∷ []) (record { router = i.router; iface = Some i.at }) →
    Arrival hops Sought before now
one_further hops before now i has on =
    let (front, last, same, sought) = on.last in
    record {
      rest = record { router = i.router; iface = Some i.at } ∷ on.rest;
      end = on.end;
      proper = on.proper;
      goes = ((i.at, refl, has), on.goes);
      last = (now ∷ front, last, ap (λ xs. now ∷ xs) same, sought);
    }

pub arrival : {Sought : ℕ → End → Type 0} (hops : ℕ → List Hop) (table : List Forwarding) → Stands hops Sought table →
    (k router : ℕ) → known (arriving table k) router ≡ true →
    (before : List Start) (now : Start) → now.router ≡ router → Arrival hops Sought before now
unfolding arriving
arrival hops table stands zero router marked before now here =
    let found = known_mapped (λ f. f.ends) table router marked in
    ends_here hops table stands router found.0 found.1 found.2 before now here
arrival {Sought} hops table stands (suc k) router marked before now here =
    let marks = arriving table k in
    let found = known_mapped (ends_or_sends marks) table router marked in
    let f = found.0 in
    elim (or_cases f.ends (sends_on marks f) found.2) [
      | inl ends ↦ ends_here hops table stands router f found.1 ends before now here
      | inr sends ↦
          let (i, has, is_marked) = led hops table stands marks router f found.1 sends in
          let then : Start = record { router = i.router; iface = Some i.at } in
          let P : ℕ → Type 0 = λ r. Contains (hops r) (To i) in
          one_further hops before now i (subst P (sym here) has)
          (arrival hops table stands k i.router is_marked (before ++ now ∷ []) then refl)
    ]

-- The metric with which BGP takes an entry of the table, from the terms of a slot and from the slot for which they
-- stand.
use Rattle.std.proofs.Common.{◌≡◌, ℕ, Bool, true, false, ◌&&◌, ◌||◌, if◌then◌else◌, List, Option, Some, None, refl, ap}
use Rattle.std.specs.Prelude.{◌==◌, option_and_then, option_map}
use Rattle.mw_text.specs.declared.address.Prefix.{Prefix}
use Rattle.ios_ast.specs.declared.file.File.{File}
use Rattle.ios_ast.specs.declared.ospf.Redist.{Redist}
use Rattle.ios_ast.specs.declared.ospf.Source.{Source}
use Rattle.ios_ast.specs.declared.ospf.Source.TheVariants as source
use Rattle.route_record.specs.declared.OspfKind.TheVariants.{Internal, Ext1, Ext2}
use Rattle.route_record.specs.declared.OspfRec.{OspfRec}
use Rattle.route_record.specs.declared.RibEntry.{RibEntry}
use Rattle.route_record.specs.declared.RibSource.{RibSource}
use Rattle.route_record.specs.declared.RibSource.TheVariants.{Connected, Static, Ebgp, Ospf, Ibgp}
use Rattle.route_record.specs.declared.Slot.{Slot}
use Rattle.net_parts.specs.Origins.{entry_metric, is_from, is_ospf_subnet, ospf_metric, taken_metric, takes_kind}
use Rattle.sym_policy.specs.Held.{kind_of_number}
use Rattle.sym_rib.specs.Slots.{source_of_number}
use Rattle.sym_rib.proofs.SourceLaw.{apart, chosen}

-- ---- OSPF routes

-- the metric of a route by its kind's number
pub metric_chosen : (n metric cost : ℕ)
    → (if (n == 0) || (n == 1) then cost else metric)
    ≡ ospf_metric (record { kind = kind_of_number n; metric = metric; cost = cost })
metric_chosen n metric cost = by (n == 0) (n == 1)
  where
    by : (a b : Bool)
        → (if a || b then cost else metric)
        ≡ ospf_metric
        (record { kind = if a then Internal else (if b then Ext1 else Ext2); metric = metric; cost = cost })
    by true b = refl
    by false true = refl
    by false false = refl

-- whether a line takes the kind of a number
pub kind_taken : (line : Redist) (n : ℕ)
    → takes_kind line (kind_of_number n)
    ≡ (if n == 0 then line.internal else (if n == 1 then line.ext1 else line.ext2))
kind_taken line n = by (n == 0) (n == 1)
  where
    by : (a b : Bool)
        → takes_kind line (if a then Internal else (if b then Ext1 else Ext2))
        ≡ (if a then line.internal else (if b then line.ext1 else line.ext2))
    by true b = refl
    by false true = refl
    by false false = refl

pub held_stands : (there : Bool) (x : OspfRec)
    → (if there then Some (ospf_metric x) else None) ≡ option_map ospf_metric (if there then Some x else None)
held_stands true x = refl
held_stands false x = refl

pub kind_stands : (line : Redist) (there : Bool) (x : OspfRec)
    → (if there && takes_kind line x.kind then Some (ospf_metric x) else None)
    ≡ option_and_then (λ held. if takes_kind line held.kind then Some (ospf_metric held) else None)
    (if there then Some x else None)
kind_stands line true x = refl
kind_stands line false x = refl

-- ---- entries

-- the metric of an entry of OSPF, or 0
pub source_chosen : (there own ospf zero : Bool) (n none : ℕ) → none ≡ 0
    → (if there && (if own then ospf else zero) then Some (if own then n else none) else None)
    ≡ (if there then (if own then (if ospf then Some n else None) else (if zero then Some 0 else None)) else None)
source_chosen false own ospf zero n none is = refl
source_chosen true true ospf zero n none is = refl
source_chosen true false ospf zero n none is = ap (λ k. if zero then Some k else None) is

-- a choice by an entry that may be there
pub there_or : {X : Type 0} (there : Bool) (e : RibEntry) (f : RibEntry → Option X)
    → (if there then f e else None) ≡ option_and_then f (if there then Some e else None)
there_or true e f = refl
there_or false e f = refl

pub plain_stands : (from : Source) (there : Bool) (e : RibEntry)
    → ◌≡◌ {A = Option ℕ} (if there && is_from from e.source then Some 0 else None)
    (option_and_then (λ entry. if is_from from entry.source then Some 0 else None) (if there then Some e else None))
plain_stands from true e = refl
plain_stands from false e = refl

entry_by : (held : Slot) (a b c d : Bool) → (a ≡ true → d ≡ false) → (b ≡ true → d ≡ false) → (c ≡ true → d ≡ false)
    → (if d then option_map ospf_metric held.ospf else (if a || b then Some 0 else None))
    ≡ entry_metric held (chosen a b c d)
entry_by held true b c d h k l = ap (λ x. if x then option_map ospf_metric held.ospf else Some 0) (h refl)
entry_by held false true c d h k l = ap (λ x. if x then option_map ospf_metric held.ospf else Some 0) (k refl)
entry_by held false false true d h k l = ap (λ x. if x then option_map ospf_metric held.ospf else None) (l refl)
entry_by held false false false true h k l = refl
entry_by held false false false false h k l = refl

-- the metric of an entry by its source's number
pub entry_numbered : (held : Slot) (n : ℕ)
    → (if n == 3 then option_map ospf_metric held.ospf else (if (n == 0) || (n == 1) then Some 0 else None))
    ≡ entry_metric held (source_of_number n)
entry_numbered held n =
    entry_by held (n == 0) (n == 1) (n == 2) (n == 3) (apart n 0 3 refl) (apart n 1 3 refl) (apart n 2 3 refl)

-- what a line takes of OSPF routes
abbrev pub of_kinds : Redist → Slot → Option ℕ
of_kinds line held =
    option_and_then (λ x. if takes_kind line x.kind then Some (ospf_metric x) else None) held.ospf

ospf_by : (files : List File) (router : ℕ) (p : Prefix) (held : Slot) (line : Redist) (process : ℕ) (a b c d : Bool)
    → (a ≡ true → d ≡ false) → (b ≡ true → d ≡ false) → (c ≡ true → d ≡ false)
    → (if d then of_kinds line held
    else (if a && (line.internal && is_ospf_subnet files router p) then Some 0 else None))
    ≡ taken_metric files router p held (record line { source = source.Ospf process }) (chosen a b c d)
ospf_by files router p held line process true b c d h k l =
    ap (λ x. if x then of_kinds line held
    else (if line.internal && is_ospf_subnet files router p then Some 0 else None)) (h refl)
ospf_by files router p held line process false true c d h k l =
    ap (λ x. if x then of_kinds line held else None) (k refl)
ospf_by files router p held line process false false true d h k l =
    ap (λ x. if x then of_kinds line held else None) (l refl)
ospf_by files router p held line process false false false true h k l = refl
ospf_by files router p held line process false false false false h k l = refl

-- the metric with which a line of OSPF routes takes an entry, by its source's number
pub ospf_numbered : (files : List File) (router : ℕ) (p : Prefix) (held : Slot) (line : Redist) (process n : ℕ)
    → (if n == 3 then of_kinds line held
    else (if (n == 0) && (line.internal && is_ospf_subnet files router p) then Some 0 else None))
    ≡ taken_metric files router p held (record line { source = source.Ospf process }) (source_of_number n)
ospf_numbered files router p held line process n =
    ospf_by files router p held line process (n == 0) (n == 1) (n == 2) (n == 3) (apart n 0 3 refl) (apart n 1 3 refl)
    (apart n 2 3 refl)

-- the lines of the other sources
abbrev pub taken_with : List File → ℕ → Prefix → Slot → Redist → Source → RibSource → Option ℕ
taken_with files router p held line from e = taken_metric files router p held (record line { source = from }) e

connected_taken : (files : List File) (router : ℕ) (p : Prefix) (held : Slot) (line : Redist) (e : RibSource)
    → (if is_from source.Connected e then Some 0 else None) ≡ taken_with files router p held line source.Connected e
connected_taken files router p held line Connected = refl
connected_taken files router p held line Static = refl
connected_taken files router p held line Ebgp = refl
connected_taken files router p held line Ospf = refl
connected_taken files router p held line Ibgp = refl

static_taken : (files : List File) (router : ℕ) (p : Prefix) (held : Slot) (line : Redist) (e : RibSource)
    → (if is_from source.Static e then Some 0 else None) ≡ taken_with files router p held line source.Static e
static_taken files router p held line Connected = refl
static_taken files router p held line Static = refl
static_taken files router p held line Ebgp = refl
static_taken files router p held line Ospf = refl
static_taken files router p held line Ibgp = refl

none_taken : (files : List File) (router : ℕ) (p : Prefix) (held : Slot) (line : Redist) (asn : ℕ) (e : RibSource)
    → None ≡ taken_with files router p held line (source.Bgp asn) e
none_taken files router p held line asn Connected = refl
none_taken files router p held line asn Static = refl
none_taken files router p held line asn Ebgp = refl
none_taken files router p held line asn Ospf = refl
none_taken files router p held line asn Ibgp = refl

-- two choices by an entry that agree on each
pub same_choice : {X : Type 0} (f g : RibSource → Option X) → ((e : RibSource) → f e ≡ g e) → (o : Option RibEntry)
    → option_and_then (λ e. f e.source) o ≡ option_and_then (λ e. g e.source) o
same_choice f g same None = refl
same_choice f g same (Some e) = same e.source

pub connected_line : (files : List File) (router : ℕ) (p : Prefix) (held : Slot) (line : Redist) (o : Option RibEntry)
    → option_and_then (λ e. if is_from source.Connected e.source then Some 0 else None) o
    ≡ option_and_then (λ e. taken_with files router p held line source.Connected e.source) o
connected_line files router p held line = same_choice _ _ (connected_taken files router p held line)

pub static_line : (files : List File) (router : ℕ) (p : Prefix) (held : Slot) (line : Redist) (o : Option RibEntry)
    → option_and_then (λ e. if is_from source.Static e.source then Some 0 else None) o
    ≡ option_and_then (λ e. taken_with files router p held line source.Static e.source) o
static_line files router p held line = same_choice _ _ (static_taken files router p held line)

pub none_line : (files : List File) (router : ℕ) (p : Prefix) (held : Slot) (line : Redist) (asn : ℕ)
    (o : Option RibEntry)
    → None ≡ option_and_then (λ e. taken_with files router p held line (source.Bgp asn) e.source) o
none_line files router p held line asn None = refl
none_line files router p held line asn (Some e) = none_taken files router p held line asn e.source

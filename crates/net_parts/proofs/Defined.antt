-- What a network does not have where no router runs a routing protocol.
use Rattle.std.proofs.Common.{◌≡◌, ℕ, zero, suc, ◌+◌, Bool, true, false, ◌&&◌, not, List, [], ◌∷◌, Option, Some}
use Rattle.std.proofs.Common.{None, refl, subst}
use Rattle.std.specs.Prelude.{is_some, option_and_then, slice_get}
use Rattle.std.proofs.lemmas.Bool.{and_parts, or_parts}
use Rattle.std.specs.List.{filter_map, list_all, list_any}
use Rattle.ios_ast.specs.declared.file.File.{File}
use Rattle.mw_text.specs.declared.address.Prefix.{Prefix}
use Rattle.net_interfaces.specs.declared.interfaces.Addressed.{Addressed}
use Rattle.net_parts.specs.Protocols.{is_plain, runs_no_protocol}
use Rattle.net_interfaces.specs.Interfaces.{addressed}
use Rattle.net_parts.specs.Sessions.{ends_of, peerings, peerings_routers, runs_bgp, sessions}
use Rattle.mw_text.specs.declared.address.Addr.{Addr}
use Rattle.route_record.specs.declared.Failures.{Failures}
use Rattle.route_record.specs.declared.OspfRec.{OspfRec}
use Rattle.route_record.specs.declared.Tables.{Tables}
use Rattle.net_parts.specs.Ospf.{adjacencies, advertised, ospf_at, ospf_interfaces, running_in, up_adjacencies}
use Rattle.net_parts.specs.Sending.{sent_by_ospf, sent_towards}

-- what two tests say together
both_none : (a b : Bool) → (not a && not b) ≡ true → (a ≡ false) × (b ≡ false)
both_none true b h = cc
both_none false true h = cc
both_none false false h = (refl, refl)

-- a file that is plain runs no protocol
parts : (file : File) → is_plain file ≡ true → (is_some file.ospf ≡ false) × (is_some file.bgp ≡ false)
parts file defined = both_none (is_some file.ospf) (is_some file.bgp) defined

pub no_bgp : (files : List File) → runs_no_protocol files ≡ true → list_any runs_bgp files ≡ false
no_bgp [] all = refl
no_bgp (file ∷ rest) all =
    let both = and_parts (is_plain file) (list_all is_plain rest) all in
    rw ((parts file both.0).1, no_bgp rest both.1) refl

-- an option without a value is none
pub none_here : {A : Type 0} (o : Option A) → is_some o ≡ false → o ≡ None
none_here None h = refl
none_here (Some x) h = cc

-- where no router runs BGP there is no neighbour line
pub peerings_routers-none : (all : List Addressed) (router : ℕ) (files : List File) → list_any runs_bgp files ≡ false →
    peerings_routers all router files ≡ []
peerings_routers-none all router [] none = refl
peerings_routers-none all router (file ∷ rest) none =
    let both = or_parts (runs_bgp file) (list_any runs_bgp rest) none in
    rw (none_here file.bgp both.0, peerings_routers-none all (router + 1) rest both.1) refl

peerings-none : (files : List File) → runs_no_protocol files ≡ true → peerings files ≡ []
unfolding peerings
peerings-none files all = peerings_routers-none (addressed files) 0 files (no_bgp files all)

-- without BGP there are no ends of sessions
pub no_ends : (files : List File) → runs_no_protocol files ≡ true → ends_of files ≡ []
unfolding ends_of sessions
no_ends files all = rw (peerings-none files all) refl

-- a file of such a network
pub defined_at : (files : List File) → runs_no_protocol files ≡ true → (router : ℕ) (file : File) →
    slice_get files router ≡ Some file → is_plain file ≡ true
defined_at [] all router file found = cc
defined_at (x ∷ xs) all zero file found =
    let same : x ≡ file = cc in
    let P : File → Type 0 = λ f. is_plain f ≡ true in subst P same (and_parts (is_plain x) (list_all is_plain xs) all).0
defined_at (x ∷ xs) all (suc router) file found =
    defined_at xs (and_parts (is_plain x) (list_all is_plain xs) all).1 router file found

-- such a router runs neither OSPF nor BGP
pub no_protocol : (files : List File) → runs_no_protocol files ≡ true → (router : ℕ) (file : File) →
    slice_get files router ≡ Some file → (file.ospf ≡ None) × (file.bgp ≡ None)
no_protocol files network router file found =
    let here = parts file (defined_at files network router file found) in
    (none_here file.ospf here.0, none_here file.bgp here.1)

-- ---- no router runs OSPF

none_of_all : {A B : Type 0} (h : A → Option B) → ((x : A) → h x ≡ None) → (xs : List A) → filter_map h xs ≡ []
none_of_all h none [] = refl
none_of_all h none (x ∷ xs) = rw (none x, none_of_all h none xs) refl

no_ospf_at : (files : List File) → runs_no_protocol files ≡ true → (x : Addressed) → ospf_at files x ≡ None
no_ospf_at files network x =
    by_file (slice_get files x.id.router) (λ file is. (no_protocol files network x.id.router file is).0)
  where
    by_file : (found : Option File) → ((file : File) → found ≡ Some file → file.ospf ≡ None) →
        option_and_then (λ file. option_and_then (λ process. running_in file process x) file.ospf) found ≡ None
    by_file None none = refl
    by_file (Some file) none = rw (none file refl) refl

no_ospf_interfaces : (files : List File) → runs_no_protocol files ≡ true → ospf_interfaces files ≡ []
unfolding ospf_interfaces
no_ospf_interfaces files network = none_of_all (ospf_at files) (no_ospf_at files network) (addressed files)

-- it has no adjacency that is up
pub no_up_adjacencies : (files : List File) (failures : Failures) (router : ℕ) → runs_no_protocol files ≡ true →
    up_adjacencies files failures router ≡ []
unfolding up_adjacencies adjacencies
no_up_adjacencies files failures router network = rw (no_ospf_interfaces files network) refl

-- so it sends over none
pub no_sent_by_ospf : (files : List File) (failures : Failures) (tables : Tables) (router : ℕ) (p : Prefix)
    (held : OspfRec) →
    runs_no_protocol files ≡ true → sent_by_ospf files failures tables router p held ≡ []
unfolding sent_by_ospf
no_sent_by_ospf files failures tables router p held network = rw (no_up_adjacencies files failures router network) refl

pub no_sent_towards : (files : List File) (failures : Failures) (router : ℕ) (a : Addr) → runs_no_protocol files
    ≡ true →
    sent_towards files failures router a ≡ []
unfolding sent_towards advertised
no_sent_towards files failures router a network = rw (no_ospf_interfaces files network) refl

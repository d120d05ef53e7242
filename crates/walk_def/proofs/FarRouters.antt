-- Each adjacency leads to a router of the network.
use Rattle.std.proofs.Common.{◌≡◌, ℕ, Bool, true, false, List, [], ◌∷◌, length, Option, Some, None, refl}
use Rattle.std.proofs.lemmas.Bool.{and_from, and_parts}
use Rattle.std.specs.Prelude.{filter, map, nat_lt, option_and_then, option_map, slice_get, if◌then◌else◌}
use Rattle.std.specs.List.{cons_option, filter_map, flat_map, find, list_all}
use Rattle.std.specs.Option.{option_map_or}
use Rattle.mw_text.specs.declared.address.Addr.{Addr}
use Rattle.mw_text.specs.declared.address.Prefix.{Prefix}
use Rattle.mw_text.specs.Address.{covers}
use Rattle.ios_ast.specs.declared.file.File.{File}
use Rattle.ios_ast.specs.declared.file.Iface.{Iface}
use Rattle.ios_ast.specs.declared.ospf.Ospf.{Ospf}
use Rattle.route_record.specs.declared.Failures.{Failures}
use Rattle.route_record.specs.declared.OspfRec.{OspfRec}
use Rattle.route_record.specs.declared.Tables.{Tables}
use Rattle.net_parts.specs.declared.adjacencies.Adjacency.{Adjacency}
use Rattle.net_interfaces.specs.declared.interfaces.Addressed.{Addressed}
use Rattle.net_parts.specs.declared.ospf.OspfInterface.{OspfInterface}
use Rattle.net_interfaces.specs.Interfaces.{addressed}
use Rattle.net_parts.specs.Ospf.{adjacencies, adjacencies_of, adjacency, advertised, are_adjacent, is_matched, ospf_at}
use Rattle.net_parts.specs.Ospf.{ospf_interfaces, running, running_in, up_adjacencies}
use Rattle.net_parts.specs.OspfRoutes.{offer_over}
use Rattle.net_parts.specs.Sending.{is_on_least_walk, same_record, sent_by_ospf, sent_towards}
use Rattle.walk_def.proofs.Below.{PassesIfThere, all-append, all-filter, below-all, of_router_below}

-- the interface is of a router below the bound
abbrev runs_below : ℕ → OspfInterface → Bool
runs_below bound x = of_router_below bound x.at

-- the adjacency leads to one
abbrev pub leads_below : ℕ → Adjacency → Bool
leads_below bound a = nat_lt a.to.router bound

one_mapped : {B : Type 0} (test : B → Bool) (o : Option B) (rest : List B) → PassesIfThere test o → list_all test rest
    ≡ true →
    list_all test (cons_option o rest) ≡ true
one_mapped test None rest first others = others
one_mapped test (Some y) rest first others = and_from (test y) (list_all test rest) first others

all-filter_map : {A B : Type 0} (test : A → Bool) (wanted : B → Bool) (h : A → Option B) →
    ((x : A) → test x ≡ true → PassesIfThere wanted (h x)) → (xs : List A) → list_all test xs ≡ true →
    list_all wanted (filter_map h xs) ≡ true
all-filter_map test wanted h each [] all = refl
all-filter_map test wanted h each (x ∷ xs) all =
    let parts = and_parts (test x) (list_all test xs) all in
    one_mapped wanted (h x) (filter_map h xs) (each x parts.0) (all-filter_map test wanted h each xs parts.1)

running_below : (bound : ℕ) (files : List File) (x : Addressed) → of_router_below bound x ≡ true →
    PassesIfThere (runs_below bound) (ospf_at files x)
running_below bound files x below = by_file (slice_get files x.id.router) where
  by_iface : (process : Ospf) (iface : Option Iface)
      → PassesIfThere (runs_below bound) (option_map (λ i. running process i x) iface)
  by_iface process None = tt
  by_iface process (Some i) = below

  by_match : (matched : Bool) (process : Ospf) (file : File) → PassesIfThere (runs_below bound)
      (if matched then option_map (λ i. running process i x) (slice_get file.interfaces x.id.at) else None)
  by_match false process file = tt
  by_match true process file = by_iface process (slice_get file.interfaces x.id.at)

  by_process : (ospf : Option Ospf) (file : File)
      → PassesIfThere (runs_below bound) (option_and_then (λ process. running_in file process x) ospf)
  by_process None file = tt
  by_process (Some process) file = by_match (is_matched process x.addr) process file

  by_file : (found : Option File) → PassesIfThere (runs_below bound)
      (option_and_then (λ file. option_and_then (λ process. running_in file process x) file.ospf) found)
  by_file None = tt
  by_file (Some file) = by_process file.ospf file

interfaces_below : (files : List File) → list_all (runs_below (length files)) (ospf_interfaces files) ≡ true
unfolding ospf_interfaces
interfaces_below files =
    all-filter_map (of_router_below (length files)) (runs_below (length files)) (ospf_at files)
    (running_below (length files) files)
    (addressed files) (below-all files)

from_one : (bound : ℕ) (a : OspfInterface) (others : List OspfInterface) → list_all (runs_below bound) others ≡ true →
    list_all (leads_below bound) (map (adjacency a) others) ≡ true
from_one bound a [] all = refl
from_one bound a (b ∷ rest) all =
    let parts = and_parts (runs_below bound b) (list_all (runs_below bound) rest) all in
    and_from (runs_below bound b) (list_all (leads_below bound) (map (adjacency a) rest)) parts.0
    (from_one bound a rest parts.1)

from_all : (bound : ℕ) (others from : List OspfInterface) → list_all (runs_below bound) others ≡ true →
    list_all (leads_below bound) (flat_map (λ a. adjacencies_of a others) from) ≡ true
from_all bound others [] all = refl
from_all bound others (a ∷ rest) all =
    all-append (leads_below bound) (adjacencies_of a others) (flat_map (λ b. adjacencies_of b others) rest)
    (from_one bound a (filter (are_adjacent a) others) (all-filter (runs_below bound) (are_adjacent a) others all))
    (from_all bound others rest all)

adjacencies_below : (files : List File) → list_all (leads_below (length files)) (adjacencies files) ≡ true
unfolding adjacencies
adjacencies_below files =
    from_all (length files) (ospf_interfaces files) (ospf_interfaces files) (interfaces_below files)

up_below : (files : List File) (failures : Failures) (router : ℕ) →
    list_all (leads_below (length files)) (up_adjacencies files failures router) ≡ true
unfolding up_adjacencies
up_below files failures router = all-filter (leads_below (length files)) _ (adjacencies files) (adjacencies_below files)

-- so do those over which a router sends
pub sent_below : (files : List File) (failures : Failures) (tables : Tables) (router : ℕ) (p : Prefix)
    (held : OspfRec) →
    list_all (leads_below (length files)) (sent_by_ospf files failures tables router p held) ≡ true
unfolding sent_by_ospf
sent_below files failures tables router p held =
    all-filter (leads_below (length files)) (λ a. option_map_or (same_record held) (offer_over tables p a) false)
    (up_adjacencies files failures router) (up_below files failures router)

pub towards_below : (files : List File) (failures : Failures) (router : ℕ) (a : Addr) →
    list_all (leads_below (length files)) (sent_towards files failures router a) ≡ true
unfolding sent_towards
towards_below files failures router a = by_prefix (find (λ p. covers p a) (advertised files)) where
  by_prefix : (o : Option Prefix) → list_all (leads_below (length files))
      (option_map_or (λ p. filter (is_on_least_walk files failures router p) (up_adjacencies files failures router))
      o []) ≡ true
  by_prefix None = refl
  by_prefix (Some p) =
      all-filter (leads_below (length files)) (is_on_least_walk files failures router p)
      (up_adjacencies files failures router)
      (up_below files failures router)

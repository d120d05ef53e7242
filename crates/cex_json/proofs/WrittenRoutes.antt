-- A BGP record that was written is read back.
use Rattle.std.proofs.Common.{◌≡◌, ℕ, ◌+◌, ◌^◌, ◌<◌, ◌≤◌, ◌==◌, ◌&&◌, Bool, true, false, cond, List, [], ◌∷◌, ◌++◌}
use Rattle.std.proofs.Common.{length, map, Option, Some, None, Ok, refl, ap, sym, subst, ◌∙◌, arith}
use Rattle.std.proofs.lemmas.Bool.{le-leb}
use Rattle.std.specs.Prelude.{IfSome, codes, nat_le, option_map}
use Rattle.mw_text.specs.declared.address.Addr.{Addr}
use Rattle.ios_ast.specs.declared.file.File.{File}
use Rattle.route_record.specs.declared.BgpRec.{BgpRec}
use Rattle.route_record.specs.declared.Learnt.{Learnt}
use Rattle.route_record.specs.declared.Learnt.TheVariants.{Local, Peer}
use Rattle.serde_json.specs.Data.{Data, string}
use Rattle.serde_json.specs.Find.{get}
use Rattle.cex_json.specs.Entries.{bgp_in, front_in, learnt_named}
use Rattle.cex_json.specs.Fields.{absent_or, addr_in, addrs_in, ascending_in, greatest, is_above, path_in}
use Rattle.cex_json.specs.Json.{array_of, number_of}
use Rattle.cex_json.specs.Parts.{addr_data, addr_text, bgp_data, first_of_bgp, learnt_text, origin_text}
use Rattle.cex_json.specs.Writable.{EachSplit, IsLearntThere, IsWritable}
use Rattle.cex_json.proofs.Dotted.{addr_back, not_local}
use Rattle.cex_json.proofs.Written.{origin_back}
use Rattle.cex_json.proofs.WrittenLists.{addrs_back, ascending_back, path_back}

-- from a router itself, or from a neighbour
learnt_back : (files : List File) (router : ℕ) (from : Learnt) → IsLearntThere files router from →
    learnt_named files (Some router) (learnt_text from) ≡ Some from
learnt_back files router Local there = refl
learnt_back files router (Peer a) there = rw (not_local a) (rw (addr_back a there.0) (rw there.1 refl))

-- what the fields of a written record are
got : (held : BgpRec) (originator : Option Addr) → held.originator ≡ originator →
    (get (codes "clusters") (bgp_data held) ≡ Some (array_of (map addr_data held.clusters)))
    × (get (codes "communities") (bgp_data held) ≡ Some (array_of (map number_of held.communities)))
    × (get (codes "from") (bgp_data held) ≡ Some (string (learnt_text held.from)))
    × (get (codes "localpref") (bgp_data held) ≡ Some (number_of held.local_pref))
    × (get (codes "med") (bgp_data held) ≡ Some (number_of held.med))
    × (get (codes "nexthop") (bgp_data held) ≡ Some (addr_data held.next_hop))
    × (get (codes "origin") (bgp_data held) ≡ Some (string (origin_text held.origin)))
    × (get (codes "originator") (bgp_data held) ≡ option_map addr_data held.originator)
    × (get (codes "path") (bgp_data held) ≡ Some (array_of (map number_of held.path)))
    × (get (codes "weight") (bgp_data held) ≡ Some (number_of held.weight))
unfolding bgp_data first_of_bgp
got held None e = rw e (refl, refl, refl, refl, refl, refl, refl, refl, refl, refl)
got held (Some a) e = rw e (refl, refl, refl, refl, refl, refl, refl, refl, refl, refl)

-- the lists of a record
read_addrs : (at name : List ℕ) (d : Data) (xs : List Addr) → get name d ≡ Some (array_of (map addr_data xs)) →
    EachSplit (λ _ a. a.0 < 2 ^ 32) xs → addrs_in at name d ≡ Ok xs
unfolding addrs_in
read_addrs at name d xs there small = rw there (addrs_back at name xs small)

pub read_ascending : (at name : List ℕ) (d : Data) (xs : List ℕ) → get name d ≡ Some (array_of (map number_of xs)) →
    EachSplit (λ before n. (is_above before n ≡ true) × (n ≤ greatest)) xs → ascending_in at name d ≡ Ok xs
unfolding ascending_in
read_ascending at name d xs there fits = rw there (ascending_back at name xs fits)

pub read_path : (at name : List ℕ) (d : Data) (xs : List ℕ) → get name d ≡ Some (array_of (map number_of xs)) →
    EachSplit (λ _ n. (0 < n) × (n ≤ greatest)) xs → path_in at name d ≡ Ok xs
unfolding path_in
read_path at name d xs there fits = rw there (path_back at name xs fits)

-- the first five fields
front_back : (files : List File) (router : ℕ) (at : List ℕ) (held : BgpRec) → IsWritable files router held →
    front_in files (Some router) at (bgp_data held) ≡ Ok (record {
      clusters = held.clusters;
      communities = held.communities;
      from = held.from;
      local_pref = held.local_pref;
      med = held.med;
    })
unfolding front_in
front_back files router at held fits =
    let there = got held held.originator refl in
    rw (read_addrs at (codes "clusters") (bgp_data held) held.clusters there.0 fits.clusters)
    (rw (read_ascending at (codes "communities") (bgp_data held) held.communities there.1 fits.communities)
    (rw there.2 (rw (learnt_back files router held.from fits.from)
    (rw there.3 (rw (le-leb held.local_pref greatest fits.local_pref)
    (rw there.4 (rw (le-leb held.med greatest fits.med) refl)))))))

-- the identifier of the originator, where there is one
originator_back : (originator : Option Addr) → IfSome originator (λ a. a.0 < 2 ^ 32) →
    absent_or addr_in (option_map addr_data originator) ≡ Some originator
originator_back None small = refl
originator_back (Some a) small = rw (addr_back a small) refl

-- a record whose numbers and addresses fit their types, whose communities ascend, and whose neighbour is one of the
-- router's
pub bgp_back : (files : List File) (router : ℕ) (at : List ℕ) (held : BgpRec) → IsWritable files router held →
    bgp_in files (Some router) at (bgp_data held) ≡ Ok held
unfolding bgp_in
bgp_back files router at held fits =
    let there = got held held.originator refl in
    rw (front_back files router at held fits)
    (rw there.5 (rw (addr_back held.next_hop fits.next_hop)
    (rw there.6 (rw (origin_back held.origin)
    (rw there.7 (rw (originator_back held.originator fits.originator)
    (rw (read_path at (codes "path") (bgp_data held) held.path there.8 fits.path)
    (rw there.9 (rw (le-leb held.weight greatest fits.weight) refl)))))))))

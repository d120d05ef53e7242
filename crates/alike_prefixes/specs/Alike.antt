-- Prefixes that are the same to every line of the files: what is asked of a prefix, by its length and its address,
-- where routes originate, and are redistributed, filtered and entered into tables.
use Rattle.std.specs.Prelude.{◌≡◌, ℕ, ◌||◌, All, false, List, [], Some, slice_get}
use Rattle.mw_text.specs.declared.address.Prefix.{Prefix}
use Rattle.mw_text.specs.Address.{same_prefix}
use Rattle.ios_ast.specs.declared.bgp.Bgp.{Bgp}
use Rattle.ios_ast.specs.declared.bgp.BgpNet.{BgpNet}
use Rattle.ios_ast.specs.declared.file.File.{File}
use Rattle.ios_ast.specs.declared.file.Use.{Use}
use Rattle.ios_ast.specs.declared.ospf.Ospf.{Ospf}
use Rattle.ios_ast.specs.declared.ospf.Redist.{Redist}
use Rattle.ios_ast.specs.Maps.{deciding, entries_named}
use Rattle.ios_ast.specs.Matching.{prefixes_named}
use Rattle.ios_ast.specs.Setting.{Attributes}
use Rattle.route_record.specs.declared.Failures.{Failures}
use Rattle.net_interfaces.specs.declared.interfaces.Addressed.{Addressed}
use Rattle.net_parts.specs.Origins.{is_classful, is_default, is_ospf_subnet}
use Rattle.net_parts.specs.Ospf.{origin_interfaces}
use Rattle.net_parts.specs.Routing.{is_direct, static_routes, up_interfaces}

-- a line of redistribution takes both prefixes by their class, or none of them
abbrev pub TakesClassAlike : Prefix → Prefix → Redist → Type 0
TakesClassAlike p q line = (line.subnets || is_classful p) ≡ (line.subnets || is_classful q)

-- a `network` line of BGP names another prefix
abbrev pub NamesAnother : Prefix → BgpNet → Type 0
NamesAnother p line = same_prefix line.prefix p ≡ false

-- it names both prefixes or none of them
abbrev pub NamesAlike : Prefix → Prefix → BgpNet → Type 0
NamesAlike p q line = same_prefix line.prefix p ≡ same_prefix line.prefix q

-- no line gives the prefix anything, whatever has failed: it is not the default, nor the subnet of an interface, nor
-- that of a static route, nor advertised by OSPF, nor in a `network` line of BGP
pub record IsBare (files : List File) (p : Prefix) : Type 0 where
  pub not_default : is_default p ≡ false
  pub direct : (failures : Failures) (router : ℕ) → is_direct (up_interfaces files failures router) p ≡ false
  pub statics : (router : ℕ) (file : File) (up : List Addressed) → slice_get files router ≡ Some file →
      static_routes up file.statics p ≡ []
  pub origins : (failures : Failures) (router : ℕ) → origin_interfaces files failures router p ≡ []
  pub networks : (router : ℕ) (file : File) (process : Bgp) → slice_get files router ≡ Some file →
      file.bgp ≡ Some process → All (NamesAnother p) process.networks
  pub no_subnet : (router : ℕ) → is_ospf_subnet files router p ≡ false

-- the policies of the files take both prefixes alike: prefix lists, route maps, and redistribution by class
pub record SamePolicies (files : List File) (p q : Prefix) : Type 0 where
  pub lists : (router : ℕ) (file : File) (named : Use) → slice_get files router ≡ Some file →
      prefixes_named file.policies p named ≡ prefixes_named file.policies q named
  pub maps : (router : ℕ) (file : File) (named : Use) (r : Attributes) → slice_get files router ≡ Some file →
      deciding file.policies p r (entries_named file.policies named)
      ≡ deciding file.policies q r (entries_named file.policies named)
  pub classes : (router : ℕ) (file : File) (process : Ospf) → slice_get files router ≡ Some file →
      file.ospf ≡ Some process → All (TakesClassAlike p q) process.redistribute

-- all that is asked of a prefix has one answer for both
pub record AlikePrefixes (files : List File) (p q : Prefix) : Type 0 where
  pub default : is_default p ≡ is_default q
  pub direct : (failures : Failures) (router : ℕ) →
      is_direct (up_interfaces files failures router) p ≡ is_direct (up_interfaces files failures router) q
  pub statics : (router : ℕ) (file : File) (up : List Addressed) → slice_get files router ≡ Some file →
      static_routes up file.statics p ≡ static_routes up file.statics q
  pub origins : (failures : Failures) (router : ℕ) →
      origin_interfaces files failures router p ≡ origin_interfaces files failures router q
  pub networks : (router : ℕ) (file : File) (process : Bgp) → slice_get files router ≡ Some file →
      file.bgp ≡ Some process → All (NamesAlike p q) process.networks
  pub subnet : (router : ℕ) → is_ospf_subnet files router p ≡ is_ospf_subnet files router q
  pub policies : SamePolicies files p q

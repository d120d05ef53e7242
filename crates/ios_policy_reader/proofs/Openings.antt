-- A kind of words that is open takes its sample whatever was said.
use Rattle.std.proofs.Common.{◌≡◌, ℕ, ◌*◌, ◌/◌, true, min, List, nat_le}
use Rattle.std.proofs.Common.{is_some, refl, arith}
use Rattle.std.proofs.lemmas.Bool.{false≢true, le-leb, eq-eqb}
use Rattle.ios_policy_reader.specs.declared.said.Said.{Said}
use Rattle.ios_policy_reader.specs.declared.edges.Takes.{Takes}
use Rattle.ios_policy_reader.specs.declared.edges.Takes.TheVariants.{End, Key, Named, Any, Range, AnyName}
use Rattle.ios_policy_reader.specs.declared.edges.Takes.TheVariants.{ListName, RouterName, Interface, AnyAddress}
use Rattle.ios_policy_reader.specs.declared.edges.Takes.TheVariants.{ClassAddress, Mask}
use Rattle.ios_policy_reader.specs.declared.edges.Takes.TheVariants.{MaskOver, AnyPrefix, AnyCommunity, AnyPort}
use Rattle.ios_policy_reader.specs.declared.edges.Takes.TheVariants.{AnyPattern, AnyPorts}
use Rattle.ios_policy_reader.specs.declared.edges.Takes.TheVariants.{Once, PortKey, PortFrom, LengthFrom}
use Rattle.ios_policy_reader.specs.Masks.{length_below}
use Rattle.ios_policy_reader.specs.Words.{port_of}
use Rattle.ios_policy_reader.specs.Edges.{said_by, said_back}
use Rattle.ios_policy_reader.specs.Said.{number_under, address_said}
use Rattle.ios_policy_reader.specs.Least.{opens, sample}

-- a bound that is capped takes its cap
capped : (n m : ℕ) → nat_le (min n m) m ≡ true
capped n m = le-leb (min n m) m (omega arith)

whole : (n : ℕ) → n / 1 * 1 ≡ n
whole n = omega arith

pub open_says : (takes : Takes) (said : List Said) (at : ℕ) → opens takes ≡ true
    → is_some (said_by takes said at (sample takes)) ≡ true
unfolding opens said_by said_back length_below port_of
open_says End said at h = absurd (false≢true h)
open_says (Key key) said at h = h
open_says (Named key n) said at h = h
open_says Any said at h = refl
open_says (Range low high) said at h = h
open_says AnyName said at h = refl
open_says ListName said at h = refl
open_says RouterName said at h = refl
open_says Interface said at h = refl
open_says AnyAddress said at h = refl
open_says ClassAddress said at h = refl
open_says (Mask least) said at h = h
open_says MaskOver said at h = rw (eq-eqb _ _ (whole (address_said said).0)) refl
open_says AnyPrefix said at h = refl
open_says AnyCommunity said at h = refl
open_says AnyPort said at h = h
open_says AnyPorts said at h = h
open_says AnyPattern said at h = refl
open_says (Once key tag) said at h = absurd (false≢true h)
open_says (PortKey key n) said at h = absurd (false≢true h)
open_says (PortFrom tag) said at h = rw (capped (number_under tag said 0) 65535) refl
open_says LengthFrom said at h = rw (capped _ 32) refl

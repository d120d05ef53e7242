-- Whether a route may be announced by an external peer, part by part.
use Rattle.std.specs.Prelude.{ℕ, ◌==◌, ◌&&◌, ◌||◌, Bool, List, filter, length, nat_le, not}
use Rattle.std.specs.List.{list_all}
use Rattle.route_record.specs.declared.tracked.Tracked.{Tracked}
use Rattle.route_shapes.specs.Bgp.{BgpShape}
use Rattle.net_parts.specs.World.{is_as_number}
use Rattle.announced_shapes.specs.Paths.{are_marked, is_path_shape, taken}

-- the peer of that AS may announce the path, and the origin is one of the three that there are (RFC 4271, section 4.3)
abbrev pub is_announced : Tracked → ℕ → BgpShape → Bool
is_announced tracked asn s = nat_le s.preferences.origin 2 && is_path_shape asn tracked.numbers s.path

-- a number is one of the two ends of a path
abbrev pub is_one_of : ℕ → ℕ → ℕ → Bool
is_one_of first last t = (first == t) || (last == t)

-- the ends are marked, and each marked number is an AS number
abbrev pub are_fit : (ℕ → Bool) → List ℕ → List Bool → Bool
are_fit is tracked marks = are_marked is tracked marks && list_all is_as_number (taken tracked marks)

-- how many marked numbers are neither
abbrev pub inner_count : (ℕ → Bool) → List ℕ → List Bool → ℕ
inner_count is tracked marks = length (filter (λ t. not (is t)) (taken tracked marks))

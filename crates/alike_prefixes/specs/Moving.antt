-- Routes of one prefix length that are moved to another, with the announcements from outside.
use Rattle.std.specs.Prelude.{◌≡◌, ◌⊎◌, ℕ, ◌<◌, ◌==◌, ◌&&◌, List, length, Option, Some, None, option_and_then}
use Rattle.std.specs.Prelude.{option_map, unwrap_or}
use Rattle.std.specs.List.{filter_map, find}
use Rattle.mw_text.specs.declared.address.Addr.{Addr}
use Rattle.mw_text.specs.Address.{prefix_at}
use Rattle.ios_ast.specs.declared.file.File.{File}
use Rattle.route_record.specs.declared.Announcement.{Announcement}
use Rattle.route_record.specs.declared.Environment.{Environment}
use Rattle.route_record.specs.declared.Slot.{Slot}
use Rattle.route_record.specs.declared.Tables.{Tables}
use Rattle.route_record.specs.declared.TheConstants.{LENGTHS}
use Rattle.route_record.specs.Places.{slot_at}
use Rattle.plan_places.specs.Tables.{empty_slot, tabulated}
use Rattle.alike_prefixes.specs.Alike.{IsBare, SamePolicies}

-- no router has anything in its slot for the length, and no external peer announces anything for it
pub record IsEmptyAt (environment : Environment) (tables : Tables) (len : ℕ) : Type 0 where
  pub slots : (router : ℕ) (slot : Slot) → slot_at tables router len ≡ Some slot → slot ≡ empty_slot
  pub announced : (end : ℕ) → find (λ a. (a.end == end) && (a.len == len)) environment.announced ≡ None

-- of a destination the prefixes of both lengths are bare, and policies take them alike
abbrev pub ArePlain : List File → Addr → ℕ → ℕ → Type 0
ArePlain files d l m =
    IsBare files (prefix_at d l) × IsBare files (prefix_at d m) × SamePolicies files (prefix_at d l) (prefix_at d m)

-- `to` says where what stands at a length of a destination goes, if anywhere, and `from` whence what is to stand there
-- comes. A length keeps what it has, or gives it to one that is alike; one to which nothing comes is bare; and of two
-- lengths that go somewhere the longer one goes further
pub record IsMove (files : List File) (d : Addr) (to from : ℕ → Option ℕ) : Type 0 where
  pub forth : (l m : ℕ) → to l ≡ Some m → from m ≡ Some l
  pub back : (l m : ℕ) → from m ≡ Some l → to l ≡ Some m
  pub inside : (l m : ℕ) → to l ≡ Some m → (l < LENGTHS) × (m < LENGTHS)
  pub alike : (l m : ℕ) → to l ≡ Some m → (l ≡ m) ⊎ ArePlain files d l m
  pub emptied : (m : ℕ) → m < LENGTHS → from m ≡ None → IsBare files (prefix_at d m)
  pub order : (l k m n : ℕ) → l < k → to l ≡ Some m → to k ≡ Some n → m < n

-- the slot of a router after the move
abbrev pub moved_slot : Tables → (ℕ → Option ℕ) → ℕ → ℕ → Slot
moved_slot tables from router len = unwrap_or (option_and_then (slot_at tables router) (from len)) empty_slot

abbrev pub moved_tables : List File → (ℕ → Option ℕ) → Tables → Tables
moved_tables files from tables = tabulated (moved_slot tables from) (length files)

-- an announcement goes with its length, and is withdrawn where that goes nowhere
abbrev pub moved_announcement : (ℕ → Option ℕ) → Announcement → Option Announcement
moved_announcement to a = option_map (λ len. record a { len = len }) (to a.len)

abbrev pub moved_environment : (ℕ → Option ℕ) → Environment → Environment
moved_environment to environment =
    record environment { announced = filter_map (moved_announcement to) environment.announced }

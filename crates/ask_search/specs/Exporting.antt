-- Stable routings that break an ask, and the question of its counterexamples.
use Rattle.std.specs.Prelude.{◌≡◌, ℕ, ◌<◌, ◌^◌, true, None}
use Rattle.std.specs.Prelude.{List}
use Rattle.mw_text.specs.declared.address.Addr.{Addr}
use Rattle.mw_text.specs.declared.address.Prefix.{Prefix}
use Rattle.ios_ast.specs.declared.file.File.{File}
use Rattle.route_record.specs.declared.Environment.{Environment}
use Rattle.route_record.specs.declared.Failures.{Failures}
use Rattle.route_record.specs.declared.Tables.{Tables}
use Rattle.route_record.specs.declared.TheConstants.{LENGTHS}
use Rattle.net_parts.specs.Stable.{Stable}
use Rattle.net_parts.specs.World.{IsEnvironment, IsFailureSet}
use Rattle.question_lang.specs.declared.question.Kind.TheVariants.{NoStable}
use Rattle.question_lang.specs.declared.question.PacketSet.{PacketSet}
use Rattle.question_lang.specs.declared.question.Question.{Question}
use Rattle.export_asks.specs.declared.ask.Ask.{Ask}
use Rattle.export_asks.specs.Exported.{is_exported}

-- ---- what breaks an ask

-- These tables are a stable routing for the destination, with failed links that may fail together and in an environment
-- that the external peers may make; and a route of the ask goes out to its peer for the destination's prefix of that
-- length.
pub record IsExporting (files : List File) (ask : Ask) (d : Addr) (failures : Failures) (environment : Environment)
    (tables : Tables) (len : ℕ) : Type 0 where
  pub destination : d.0 < 2 ^ 32
  pub environment_fits : IsEnvironment files environment
  pub failures_fit : IsFailureSet files ask.failures failures
  pub stable : Stable files d failures environment tables
  pub short : len < LENGTHS
  pub exported : is_exported files ask d failures tables len ≡ true

-- there is such a routing
abbrev pub IsExportable : List File → Ask → Type 0
IsExportable files ask =
    (d : Addr) × (failures : Failures) × (environment : Environment) × (tables : Tables) × (len : ℕ)
    × IsExporting files ask d failures environment tables len

-- there is none
abbrev pub IsUnexported : List File → Ask → Type 0
IsUnexported files ask =
    (d : Addr) (failures : Failures) (environment : Environment) (tables : Tables) (len : ℕ) →
    IsExporting files ask d failures environment tables len → ⊥

-- ---- counterexamples

abbrev pub any_address : Prefix
any_address = record { addr = record { 0 = 0 }; len = 0 }

-- ip any any P any: every packet to an address of the prefix
abbrev pub packets_to : Prefix → PacketSet
packets_to p = record { proto = None; src = any_address; sport = (0, 65535); dst = p; dport = (0, 65535) }

-- the question whether there is no stable routing at all, of these packets, under the ask's name
abbrev pub question_of : Ask → Question
question_of ask = record {
  name = ask.name;
  kind = NoStable;
  packets = packets_to ask.prefix;
  failures = ask.failures;
}

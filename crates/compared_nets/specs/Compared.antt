-- When two networks answer an ask alike: under one packet, one environment and one set of failures.
use Rattle.std.specs.Prelude.{◌≡◌, List}
use Rattle.ios_ast.specs.declared.file.File.{File}
use Rattle.route_record.specs.declared.Environment.{Environment}
use Rattle.route_record.specs.declared.World.{World}
use Rattle.net_parts.specs.Stable.{Stable}
use Rattle.net_parts.specs.World.{IsEnvironment}
use Rattle.question_lang.specs.Packets.{IsInSet}
use Rattle.packet_fates.specs.declared.fate.Fate.{Fate}
use Rattle.packet_fates.specs.Fates.{HasFate}
use Rattle.paired_nets.specs.Common.{AreCommon, AreCommonFailures}
use Rattle.same_asks.specs.declared.same.Same.{Same}
use Rattle.packet_fates.specs.declared.apart.Side.{Side}
use Rattle.packet_fates.specs.Sides.{AreSame, IsFirstApart}

-- One packet of the ask's set, parts of one environment and parts of one set of at most so many failed links as the ask
-- allows have these two stable routings, one of each network.
pub record AreBeside (left right : List File) (ask : Same) (one other : World) (around about : Environment) :
    Type 0 where
  pub packet : IsInSet ask.packets one.packet
  pub same_packet : other.packet ≡ one.packet
  pub environment : IsEnvironment left around × IsEnvironment right about
  pub common : AreCommon left right around about
  pub failures : AreCommonFailures left right ask.failures one.failures other.failures
  pub one_stable : Stable left one.packet.dst one.failures around one.tables
  pub other_stable : Stable right other.packet.dst other.failures about other.tables

-- the fates of the packet from the ask's router in the one network, and in the other
abbrev pub FatesIn : List File → World → Same → Fate → Type 0
FatesIn left one ask fate = HasFate left one ask.left fate

abbrev pub FatesBeside : List File → World → Same → Fate → Type 0
FatesBeside right other ask fate = HasFate right other ask.right fate

-- the two networks answer the ask alike: in all such routings the fates are the same
abbrev pub AnswerSame : List File → List File → Same → Type 0
AnswerSame left right ask =
    (one other : World) (around about : Environment) → AreBeside left right ask one other around about →
    AreSame (FatesIn left one ask) (FatesBeside right other ask)

-- they do not: in two such routings this is the first fate that one side alone has
pub record AreDifferent (left right : List File) (ask : Same) (one other : World) (side : Side) (fate : Fate) :
    Type 0 where
  pub around : Environment
  pub about : Environment
  pub beside : AreBeside left right ask one other around about
  pub first : IsFirstApart (FatesIn left one ask) (FatesBeside right other ask) side fate

-- in some two such routings the fates are not the same
abbrev pub DoDiffer : List File → List File → Same → Type 0
DoDiffer left right ask =
    (one : World) × (other : World) × (around : Environment) × (about : Environment)
    × AreBeside left right ask one other around about
    × (AreSame (FatesIn left one ask) (FatesBeside right other ask) → ⊥)

-- Routings that differ by a fate.
use Rattle.std.proofs.Common.{List, Option, Some, None}
use Rattle.std.specs.Prelude.{IfSome}
use Rattle.ios_ast.specs.declared.file.File.{File}
use Rattle.route_record.specs.declared.Environment.{Environment}
use Rattle.route_record.specs.declared.World.{World}
use Rattle.packet_fates.specs.declared.apart.Apart.{Apart}
use Rattle.packet_fates.specs.Sides.{IsFirstApart}
use Rattle.same_asks.specs.declared.same.Same.{Same}
use Rattle.compared_nets.specs.Compared.{AreBeside, AreDifferent, FatesBeside, FatesIn}

-- where the routings stand side by side the networks differ by the first fate of one side alone
pub differ_so : (left right : List File) (ask : Same) (one other : World) (found : Option Apart) →
    IfSome found (λ a. IsFirstApart (FatesIn left one ask) (FatesBeside right other ask) a.side a.fate) →
    IfSome found (λ a. (around about : Environment) → AreBeside left right ask one other around about →
    AreDifferent left right ask one other a.side a.fate)
differ_so left right ask one other None first = tt
differ_so left right ask one other (Some a) first =
    λ around about beside. record { around = around; about = about; beside = beside; first = first }

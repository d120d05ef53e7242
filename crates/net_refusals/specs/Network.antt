-- Which files are a network.
use Rattle.std.specs.Prelude.{◌≡◌, true, List, None}
use Rattle.std.specs.List.{list_all}
use Rattle.ios_ast.specs.declared.file.File.{File}
use Rattle.net_interfaces.specs.Limits.{keeps_limits}
use Rattle.net_refusals.specs.Refusals.{first_refusal}

-- the files are a network: each keeps the limits of a file, and together they break no rule
pub record IsNetwork (files : List File) : Type 0 where
  pub limits : list_all keeps_limits files ≡ true
  pub unrefused : first_refusal files ≡ None

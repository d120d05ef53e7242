use Rattle.std.proofs.Common.{◌≡◌, ◌++◌, drop}
use Rattle.net_model.specs.Kept.{ids_from}
use Rattle.net_model.proofs.network.all_ids.Given as goal

-- the identifiers so far, with those that are left, are all
abbrev pub invariant-loop-router : goal.invariant-loop-router
invariant-loop-router l =
    l.ids-inside.items.items ++ ids_from l.files l.router (drop l.router l.files) ≡ ids_from l.files 0 l.files

use Rattle.std.proofs.Common.{◌∙◌, sym}
use Rattle.resolution_check.specs.Entries.{Refutes}
use Rattle.trimmed_logs.specs.Trimmed.{IsTrimmed}
use Rattle.trimmed_logs.proofs.Whole.{on_split, split_empty, split_place, whole_refutes, whole_trimmed}
use Rattle.trimmed_logs.proofs.trimming.trim.Goals as goal

pub unreachable-requires : goal.unreachable-requires
unreachable-requires c =
    let es = c.args.entries.now in
    c.in_default.not-Some _ (c.find_empty.ensures ∙ split_place es (split_empty es c.requires.refutes.1))

pub returns-clause-trimmed : goal.returns-clause-trimmed
returns-clause-trimmed c =
    let es = c.args.entries.now in
    let s = split_empty es c.requires.refutes.1 in
    on_split (IsTrimmed es) es s c.in-Some.at _ (sym c.find_empty.ensures ∙ c.in-Some.is) c.trimmed_at.ensures
    (whole_trimmed es s c.requires.refutes.0 c.requires.inputs)

pub returns-clause-refutes : goal.returns-clause-refutes
returns-clause-refutes c =
    let es = c.args.entries.now in
    let s = split_empty es c.requires.refutes.1 in
    on_split Refutes es s c.in-Some.at _ (sym c.find_empty.ensures ∙ c.in-Some.is) c.trimmed_at.ensures
    (whole_refutes es s c.requires.refutes.0 c.requires.inputs)

use Rattle.sym_policy.specs.Held.{failures_of}
use Rattle.term_arith.specs.Bits.{bits}
use Rattle.joined_terms.specs.Joining.{behind}
use Rattle.ties_beside.proofs.Alike.{alike_back, alike_on, all_from, are_alike, each_of}
use Rattle.ties_beside.proofs.Failing.{holds_there, stands_there}
use Rattle.ties_beside.specs.Links.{fail_alike, fails}
use Rattle.ties_beside.proofs.laws.alike_law.Goals as goal

pub returns : goal.returns
unfolding failures_of
returns c = λ w places a b pairs.
    let u = behind places w in
    let test = fail_alike w places a.down b.down in (
      λ all pair there.
          let same = each_of test pairs all pair there in (
            λ one. stands_there (bits u b.down) pair.other (alike_on (fails w a.down pair.one)
                (fails u b.down pair.other) same (holds_there (bits w a.down) pair.one one)),
            λ other. stands_there (bits w a.down) pair.one (alike_back (fails w a.down pair.one)
                (fails u b.down pair.other) same (holds_there (bits u b.down) pair.other other)),
          ),
      λ each. all_from test pairs (λ pair there. are_alike (fails w a.down pair.one) (fails u b.down pair.other)
          (λ one. holds_there (bits u b.down) pair.other
          ((each pair there).0 (stands_there (bits w a.down) pair.one one)))
          (λ other. holds_there (bits w a.down) pair.one
          ((each pair there).1 (stands_there (bits u b.down) pair.other other)))),
    )

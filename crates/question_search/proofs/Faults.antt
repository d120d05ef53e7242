-- What is said of faults of the log goes from one outcome to another of the same fault.
use Rattle.std.proofs.Common.{◌≡◌, Result, Ok, Err}
use Rattle.cdcl_search.specs.declared.outcome.SolveFault.{SolveFault}
use Rattle.cdcl_search.specs.declared.outcome.SolveFault.TheVariants.{LogFault, Memory}
use Rattle.cdcl_search.specs.Outcomes.{OnLogFault, UnlessLogFault}

pub fault_on : {A B P Q : Type 0} (r : Result A SolveFault) (s : Result B SolveFault) (e : SolveFault) → r ≡ Err e →
    s ≡ Err e → OnLogFault r P → (P → Q) → OnLogFault s Q
fault_on r (Ok b) e is same given go = tt
fault_on r (Err Memory) e is same given go = tt
fault_on (Ok a) (Err LogFault) e is same given go = absurd cc
fault_on (Err Memory) (Err LogFault) e is same given go = absurd cc
fault_on (Err LogFault) (Err LogFault) e is same given go = go given

pub unless_on : {A B P Q : Type 0} (r : Result A SolveFault) (s : Result B SolveFault) (e : SolveFault) → r ≡ Err e →
    s ≡ Err e → UnlessLogFault r P → (P → Q) → UnlessLogFault s Q
unless_on r (Err LogFault) e is same given go = tt
unless_on (Ok a) (Ok b) e is same given go = go given
unless_on (Err LogFault) (Ok b) e is same given go = absurd cc
unless_on (Err Memory) (Ok b) e is same given go = absurd cc
unless_on (Ok a) (Err Memory) e is same given go = absurd cc
unless_on (Err LogFault) (Err Memory) e is same given go = absurd cc
unless_on (Err Memory) (Err Memory) e is same given go = go given

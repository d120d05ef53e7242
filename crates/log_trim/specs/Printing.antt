-- How a text is printed.
use Rattle.std.specs.Prelude.{◌≡◌, ◌⊎◌, ℕ, List, Option}
use Rattle.mw_outside.specs.Faults.{Rose}
use Rattle.mw_outside.specs.Taken.{Takes, TakesPart}
use Rattle.mw_load.specs.declared.ended.Ended.{Ended}
use Rattle.mw_load.specs.declared.ended.Ended.TheVariants.{WriteFault}

-- the text stands and no write failed, and this is how it ends; or a write failed
abbrev pub PrintsSo : (taken taken_now : Option (List ℕ)) → (faults faults_now : ℕ) → List ℕ → (wanted result : Ended) → Type 0
PrintsSo taken taken_now faults faults_now text wanted result =
    ((result ≡ wanted) × Takes taken taken_now text × (faults_now ≡ faults))
    ⊎ ((result ≡ WriteFault) × TakesPart taken taken_now text × Rose faults faults_now)

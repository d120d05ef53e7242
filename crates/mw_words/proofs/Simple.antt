-- The forms of the commands are simple, so that clap refuses words exactly as its contracts say.
use Rattle.std.proofs.Common.{◌≡◌, true, codes, refl}
use Rattle.clap.specs.Words.{is_simple_and_free}
use Rattle.mw_words.specs.Forms.{gen_app, simulate_app, telling_app, verify_app}

pub verify_simple : is_simple_and_free verify_app ≡ true
verify_simple = refl

pub check_simple : is_simple_and_free (telling_app (codes "check")) ≡ true
check_simple = refl

pub replay_simple : is_simple_and_free (telling_app (codes "replay")) ≡ true
replay_simple = refl

pub simulate_simple : is_simple_and_free simulate_app ≡ true
simulate_simple = refl

pub gen_simple : is_simple_and_free gen_app ≡ true
gen_simple = refl

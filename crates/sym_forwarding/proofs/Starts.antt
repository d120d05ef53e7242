-- What is said of a start says where walks of a world begin.
use Rattle.std.proofs.Common.{◌≡◌, ℕ, true, false, not, List, Option, Some, None, refl, sym, ap, subst}
use Rattle.std.proofs.lemmas.Bool.{and_from, and_parts, not-true}
use Rattle.ios_ast.specs.declared.file.File.{File}
use Rattle.route_record.specs.declared.World.{World}
use Rattle.net_interfaces.specs.declared.interfaces.IfaceId.{IfaceId}
use Rattle.question_lang.specs.declared.question.Start.{Start}
use Rattle.question_lang.specs.Hops.{permits_in}
use Rattle.question_lang.specs.Walks.{IsTestedIn, is_open}
use Rattle.sym_forwarding.specs.Beginnings.{begins_at, begins_in}
use Rattle.sym_forwarding.specs.Forwardings.{IsBeginning}

tested : (files : List File) (world : World) (i : IfaceId) →
    (begins_in files world.failures world.packet i).begins ≡ true → IsTestedIn files world i true
tested files world i h = and_parts (is_open files world.failures i) (permits_in files world.packet i) h

refused : (files : List File) (world : World) (i : IfaceId) →
    (begins_in files world.failures world.packet i).denied ≡ true → IsTestedIn files world i false
refused files world i h =
    let parts = and_parts (is_open files world.failures i) (not (permits_in files world.packet i)) h in
    (parts.0, not-true (permits_in files world.packet i) parts.1)

-- the start is that of the router and this interface, or none
pub begins : (files : List File) (world : World) (start : Start) →
    IsBeginning files world start (begins_at files world.failures world.packet start)
begins files world start = by_interface start.iface where
  by_interface : (o : Option ℕ) → IsBeginning files world (record { router = start.router; iface = o })
      (begins_at files world.failures world.packet (record { router = start.router; iface = o }))
  by_interface None = record {
    begins = λ h. tt;
    all_begin = λ may. refl;
    denied = λ h. cc;
    all_denied = λ (at, is, told). cc;
  }
  by_interface (Some at) =
      let i : IfaceId = record { router = start.router; at = at } in
      record {
        begins = λ h. tested files world i h;
        all_begin = λ (up, permit). and_from (is_open files world.failures i) (permits_in files world.packet i) up
            permit;
        denied = λ h. (at, refl, refused files world i h);
        all_denied = λ (other, is, (up, deny)).
            let same : at ≡ other = cc in
            let P : ℕ → Type 0 = λ k. permits_in files world.packet (record { router = start.router; at = k }) ≡
            false in
            let Q : ℕ → Type 0 = λ k. is_open files world.failures (record { router = start.router; at = k }) ≡ true in
            and_from (is_open files world.failures i) (not (permits_in files world.packet i))
            (subst Q (sym same) up) (ap not (subst P (sym same) deny));
      }

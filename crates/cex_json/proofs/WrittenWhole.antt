-- A counterexample that was written is read back.
use Rattle.std.proofs.Common.{◌≡◌, List, [], Option, Some, None, option_map, Ok, refl, ap, ◌∙◌}
use Rattle.std.specs.Prelude.{codes, slice_get}
use Rattle.ios_ast.specs.declared.file.File.{File}
use Rattle.route_record.specs.declared.Packet.{Packet}
use Rattle.question_lang.specs.declared.question.PacketSet.{PacketSet}
use Rattle.question_lang.specs.declared.question.Question.{Question}
use Rattle.question_lang.specs.declared.walk.Walk.{Walk}
use Rattle.question_lang.specs.Packets.{IsInSet}
use Rattle.serde_json.specs.Data.{Data}
use Rattle.serde_json.specs.Find.{get}
use Rattle.cex_json.specs.declared.counterexample.Counterexample.{Counterexample}
use Rattle.cex_json.specs.declared.reader.Limits.{Limits}
use Rattle.cex_json.specs.Fields.{◌>>=◌, object_in, required}
use Rattle.cex_json.specs.Json.{array_of, number_of, text_of}
use Rattle.cex_json.specs.Parts.{packet_data, slots_from, walk_data}
use Rattle.cex_json.specs.Reading.{asked_place, cex_in, limits, surroundings_in}
use Rattle.cex_json.specs.Surroundings.{packet_at, packet_in}
use Rattle.cex_json.specs.Text.{cex_data, question_name, surroundings_of}
use Rattle.cex_json.specs.Worlds.{announcements_data, failures_data, peers_data}
use Rattle.cex_json.specs.Writable.{AreTexts, IsShownFor, IsWritableCex}
use Rattle.cex_json.proofs.Fitting.{limit_of}
use Rattle.cex_json.proofs.InSet.{set_of}
use Rattle.cex_json.proofs.Named.{are_named, question_found}
use Rattle.cex_json.proofs.WrittenLinks.{failures_back}
use Rattle.cex_json.proofs.WrittenPackets.{packet_back}
use Rattle.cex_json.proofs.WrittenSenders.{announcements_back, ids_back}
use Rattle.cex_json.proofs.WrittenTables.{tables_back}
use Rattle.cex_json.proofs.WrittenWalks.{asked_back}

-- what the fields of a written counterexample are
got : (files : List File) (questions : List Question) (cex : Counterexample) (walk : Option Walk) → cex.walk ≡ walk →
    (get (codes "announcements") (cex_data files questions cex) ≡ Some (announcements_data files cex.env.announced))
    × (get (codes "failures") (cex_data files questions cex) ≡ Some (failures_data files cex.failures.links))
    × (get (codes "format") (cex_data files questions cex) ≡ Some (number_of 2))
    × (get (codes "packet") (cex_data files questions cex) ≡ Some (packet_data cex.packet))
    × (get (codes "peers") (cex_data files questions cex) ≡ Some (peers_data files cex.env.ids))
    × (get (codes "question") (cex_data files questions cex) ≡ Some (text_of (question_name questions cex.question)))
    × (get (codes "tables") (cex_data files questions cex) ≡ Some (array_of (slots_from files 0 cex.tables.slots)))
    × (get (codes "walk") (cex_data files questions cex) ≡ option_map (walk_data files) cex.walk)
unfolding cex_data surroundings_of
got files questions cex None e = rw e (refl, refl, refl, refl, refl, refl, refl, refl)
got files questions cex (Some walk) e = rw e (refl, refl, refl, refl, refl, refl, refl, refl)

packet_object : (packet : Packet) → object_in (Some (packet_data packet)) ≡ Some (packet_data packet)
unfolding packet_data
packet_object packet = refl

packet_there : (set : PacketSet) (packet : Packet) (d : Data) → IsInSet set packet →
    get (codes "packet") d ≡ Some (packet_data packet) → packet_in (Some set) d ≡ Ok packet
packet_there set packet d inside there =
    ap (λ o. required [] (codes "packet") (object_in o) >>= packet_at (Some set) (codes "packet/")) there
    ∙ ap (λ o. required [] (codes "packet") o >>= packet_at (Some set) (codes "packet/")) (packet_object packet)
    ∙ packet_back set packet (codes "packet/") inside

-- its question
question_back : (files : List File) (questions : List Question) (cex : Counterexample) (question : Question) →
    AreTexts (λ q. q.name) questions → slice_get questions cex.question ≡ Some question →
    asked_place questions (cex_data files questions cex) ≡ Some cex.question
unfolding asked_place
question_back files questions cex question names there =
    rw (got files questions cex cex.walk refl).5 (question_found questions cex.question question names there)

-- what surrounds a routing
surroundings_back : (files : List File) (questions : List Question) (cex : Counterexample) (limits : Limits)
    (question : Question) → IsWritableCex files questions cex → IsShownFor files question cex →
    limits.failures ≡ Some question.failures → limits.packets ≡ Some question.packets →
    surroundings_in files limits (cex_data files questions cex) ≡ Ok (record {
      announced = cex.env.announced;
      links = cex.failures.links;
      packet = cex.packet;
      ids = cex.env.ids;
    })
unfolding surroundings_in
surroundings_back files questions cex limits question fits shown most set =
    let d = cex_data files questions cex in
    let there = got files questions cex cex.walk refl in
    rw (announcements_back files cex.env.announced d fits.net fits.env.announced fits.env.once there.0)
    (rw most (rw (failures_back files question.failures cex.failures d fits.net shown.failures there.1)
    (rw there.2 (rw set (rw (packet_there question.packets cex.packet d shown.packet there.3)
    (rw (ids_back files cex.env.ids d fits.net fits.env.ids fits.env.fit there.4) refl))))))

-- the value of a counterexample is read as that counterexample
pub cex_back : (files : List File) (questions : List Question) (cex : Counterexample) →
    IsWritableCex files questions cex → cex_in files questions (cex_data files questions cex) ≡ Ok cex
unfolding cex_in
cex_back files questions cex fits =
    let d = cex_data files questions cex in
    let there = got files questions cex cex.walk refl in
    let question = fits.question.0 in
    let shown = fits.question.2 in
    let asked = question_back files questions cex question fits.names fits.question.1 in
    rw (surroundings_back files questions cex (limits questions d) question fits shown
    (limit_of questions d cex.question question asked fits.question.1)
    (set_of questions d cex.question question asked fits.question.1))
    (rw asked (rw (tables_back files cex.tables.slots d (are_named files fits.net.routers) fits.tables there.6)
    (rw fits.question.1 (rw (asked_back files question cex.walk d fits.net shown.walk there.7) refl))))

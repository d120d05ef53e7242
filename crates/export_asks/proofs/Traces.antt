-- Traces, step by step.
use Rattle.std.proofs.Common.{◌≡◌, ◌∙◌, refl, ap, sym, arith, ℕ, zero, suc, ◌+◌, ◌-◌, ◌<◌, ◌≤◌, List, Option, None, length}
use Rattle.std.specs.Prelude.{option_and_then}
use Rattle.ios_ast.specs.declared.file.File.{File}
use Rattle.route_record.specs.declared.Tables.{Tables}
use Rattle.export_asks.specs.declared.ask.AskPeer.{AskPeer}
use Rattle.export_asks.specs.declared.tracing.Next.{Next}
use Rattle.export_asks.specs.Exported.{held_at, source_of, traced}
use Rattle.export_asks.specs.Steps.{after}

pub traced-suc : (files : List File) (tables : Tables) (len steps router : ℕ) → traced files tables len (suc steps) router
    ≡ option_and_then (λ held. source_of files (traced files tables len steps) router held.from)
    (held_at tables router len)
unfolding traced
traced-suc files tables len steps router = refl

pub traced-zero : (files : List File) (tables : Tables) (len router : ℕ) → traced files tables len zero router ≡ None
unfolding traced
traced-zero files tables len router = refl

-- what a step leads to is what is left of the trace
pub trace_step : (files : List File) (tables : Tables) (len seen router : ℕ) (next : Next) → seen < length files →
    ((f : ℕ → Option AskPeer) → after f next
    ≡ option_and_then (λ held. source_of files f router held.from) (held_at tables router len)) →
    traced files tables len (length files - seen) router
    ≡ after (traced files tables len (length files - (seen + 1))) next
trace_step files tables len seen router next more step =
    let left : length files - seen ≡ suc (length files - (seen + 1)) = omega arith in
    ap (λ n. traced files tables len n router) left
    ∙ traced-suc files tables len (length files - (seen + 1)) router
    ∙ sym (step (traced files tables len (length files - (seen + 1))))

-- nothing is left of it behind as many steps as there are routers
pub trace_end : (files : List File) (tables : Tables) (len seen router : ℕ) → length files ≤ seen →
    traced files tables len (length files - seen) router ≡ None
trace_end files tables len seen router done =
    let left : length files - seen ≡ zero = omega arith in
    ap (λ n. traced files tables len n router) left ∙ traced-zero files tables len router

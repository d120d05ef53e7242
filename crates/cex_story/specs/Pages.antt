-- A text that is written piece by piece.
use Rattle.std.specs.Prelude.{◌≡◌, ℕ, ◌++◌, false, List}
use Rattle.cex_story.specs.declared.page.Page.{Page}

-- bytes were put at the end, where memory was not wanting then or before
abbrev pub Adds : Page → Page → List ℕ → Type 0
Adds before now bytes = now.full ≡ false → (before.full ≡ false) × (now.text ≡ before.text ++ bytes)

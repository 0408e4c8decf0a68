-- A writer, and what it has done to its buffer.
use Rattle.std.specs.Prelude.{ℕ, ◌≡◌, List}
use Rattle.text.specs.Writing.{Put}
use Rattle.text.specs.declared.writer.Writer.{Writer}

-- the text has been put where the writer stood, and it stands after it, in the same buffer
pub record Wrote (before after : Writer) (text : List ℕ) : Type 0 where
  pub same_buffer : after.out.ghost_name ≡ before.out.ghost_name
  pub put : Put before.out.now after.out.now before.at after.at text

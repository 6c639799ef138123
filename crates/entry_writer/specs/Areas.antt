-- What an area holds after a text was written into it. Assumes nothing.
use Rattle.std.specs.Prelude.{ℕ, ◌+◌, List, ◌++◌, length, take, drop}

-- the text stands at the place `at`, and all else is as before
unfoldable pub laid_at : ℕ → List ℕ → List ℕ → List ℕ
laid_at at text area = take at area ++ (text ++ drop (at + length text) area)

-- Where a reader that reads whatever a line says turns a line away.
use Rattle.std.proofs.Common.{◌≡◌, ℕ, List, Result, Ok, Err, IfErr, ◌⊎◌, inl, inr, refl}
use Rattle.lines.specs.Forms.{Reads, IsRead, IsNoLine}
use Rattle.lines.specs.declared.Line.{Line}
use Rattle.lines.specs.declared.Line.TheVariants.{Blank, Opening, Call, Bytes, Tick, AllTick, Letter, AllLetters, AllLettersLastFirst}
use Rattle.lines.specs.declared.fault.Fault.{Fault}
use Rattle.lines.specs.declared.fault.Fault.TheVariants.{NoLine, Expected, ExpectedToken, NotAscii, TooLarge, NoMemory}

only_memory : (line : Line) (fault : Fault) → IsRead line (Err fault) → fault ≡ NoMemory
only_memory (Bytes at bytes) fault h = h
only_memory Blank fault h = absurd h
only_memory (Opening offices parcels) fault h = absurd h
only_memory (Call at call) fault h = absurd h
only_memory (Tick at) fault h = absurd h
only_memory AllTick fault h = absurd h
only_memory (Letter n) fault h = absurd h
only_memory AllLetters fault h = absurd h
only_memory AllLettersLastFirst fault h = absurd h

no_line : (bs : List ℕ) (fault : Fault) → (fault ≡ NoMemory → ⊥) → Reads bs (Err fault) → IsNoLine bs
no_line bs fault other h line says = other (only_memory line fault (h line says))

pub only_where : (bs : List ℕ) (r : Result Line Fault) → Reads bs r → IfErr r (λ fault. fault ≡ NoMemory ⊎ IsNoLine bs)
only_where bs (Ok line) h = tt
only_where bs (Err NoLine) h = inr (no_line bs NoLine (λ e. absurd (cc)) h)
only_where bs (Err (Expected what example)) h = inr (no_line bs (Expected what example) (λ e. absurd (cc)) h)
only_where bs (Err (ExpectedToken token example)) h = inr (no_line bs (ExpectedToken token example) (λ e. absurd (cc)) h)
only_where bs (Err (NotAscii example)) h = inr (no_line bs (NotAscii example) (λ e. absurd (cc)) h)
only_where bs (Err TooLarge) h = inr (no_line bs TooLarge (λ e. absurd (cc)) h)
only_where bs (Err NoMemory) h = inl refl

-- What others see of a world: its limits, its letters, its journal, and what its offices have in memory.
use Rattle.std.specs.Prelude.{◌≡◌, ℕ, List, [], slice_index_or, map, vec_items, vec_len}
use Rattle.parcels.specs.Calls.{Limits}
use Rattle.letters.specs.Envelope.{Letter}
use Rattle.moves.specs.Stage.{stage_limits}
use Rattle.promises.specs.World.{Memory}
use Rattle.world.specs.declared.Exchange.{Exchange}
use Rattle.world.specs.declared.World.{World}
use Rattle.world.specs.Stations.{words_of}
use Rattle.world.specs.Mail.{letters_in_mail}

-- its stage, how many offices it has, and their limit of parcels
abbrev pub limits_of : World → Limits
limits_of w = stage_limits (vec_len w.stations) w.parcels

-- all letters that were sent, in the order in which they were
abbrev pub letters_of : World → List Letter
letters_of w = letters_in_mail w.mail

-- what was handed to offices as calls, and their answers, the oldest first
abbrev pub journal_of : World → List Exchange
journal_of w = vec_items w.journal

-- what each office has in memory, by its number
abbrev pub memories : World → List Memory
memories w = map words_of (vec_items w.stations)

-- the words that one of its offices has, by its number
abbrev pub memory_of : World → ℕ → Memory
memory_of w o = slice_index_or (memories w) o []

-- nothing was said, and no letter sent
abbrev pub SameSaid : World → World → Type 0
SameSaid v w = (limits_of w ≡ limits_of v) × (letters_of w ≡ letters_of v) × (journal_of w ≡ journal_of v)

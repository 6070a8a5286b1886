-- What comes of each line of a world file, with so many things that may still happen.
use Rattle.std.specs.Prelude.{◌≡◌, ℕ, ◌+◌, ◌-◌, ◌<◌, ◌≤◌, List, [], Some, None, Ok, Err, vec_items, Option, Result, ◌==◌, nat_le}
use Rattle.parcels.specs.Book.{pick}
use Rattle.parcels.specs.Calls.{Limits}
use Rattle.parcels.specs.declared.Answer.{Answer}
use Rattle.lines.specs.declared.Line.{Line}
use Rattle.lines.specs.declared.Line.TheVariants.{Blank, Opening, Call as CallAt, Bytes, Tick, AllTick, Letter, AllLetters, AllLettersLastFirst}
use Rattle.world.specs.declared.Exchange.{Exchange}
use Rattle.world.specs.declared.CannotHappen.{CannotHappen}
use Rattle.world.specs.declared.CannotHappen.TheVariants.{NoMemory}
use Rattle.world.specs.declared.World.{World}
use Rattle.world.specs.Outcome.{Called, Came, Answers, Nothing, Comes, AtOffice}
use Rattle.world.specs.View.{limits_of, letters_of}
use Rattle.player.specs.Limits.{most_played_letters}
use Rattle.player.specs.declared.trouble.Stop.{Stop}
use Rattle.player.specs.declared.trouble.Stop.TheVariants.{BudgetSpent, TooManyLetters, Bad}
use Rattle.player.specs.declared.trouble.Trouble.TheVariants.{OpenedAgain, Impossible}

-- what a line shows: an answer, nothing, or why the world stops there
abbrev pub Shown : Type 0
Shown = Result (Option Answer) Stop

-- one thing is counted down, where the budget is not spent
abbrev pub spent : ℕ → Result (Unit {0}) Stop
spent n = pick (n == 0) (Err BudgetSpent) (Ok tt)

-- whether so many letters leave a world to be played on
abbrev pub counted : ℕ → Result (Unit {0}) Stop
counted letters = pick (nat_le letters most_played_letters) (Ok tt) (Err TooManyLetters)

-- what comes of a thing that is counted down, and the journal after it: as the world has it, where the budget is not spent
abbrev pub Spends : ℕ → List Exchange → (Result (Option Answer) CannotHappen → List Exchange → Type 0) → Shown → List Exchange → Type 0
Spends n xs Outcome (Ok a) ys = (0 < n) × Outcome (Ok a) ys
Spends n xs Outcome (Err (Bad t)) ys = (0 < n) × ((e : CannotHappen) × (t ≡ Impossible e) × Outcome (Err e) ys)
Spends n xs Outcome (Err BudgetSpent) ys = (n ≡ 0) × (ys ≡ xs)
Spends n xs Outcome (Err TooManyLetters) ys = ⊥

-- a world's limits and the letters that were sent in it are as they were
abbrev pub SameLetters : World → World → Type 0
SameLetters v w = (limits_of w ≡ limits_of v) × (letters_of w ≡ letters_of v)

-- what a thing without an answer shows, by what comes of it
abbrev pub unanswered : Result (Unit {0}) Stop → Shown
unanswered (Ok _) = Ok None
unanswered (Err stop) = Err stop

-- all clocks tick, one after the other, until the budget is spent; or memory is wanting
abbrev pub TicksAll : ℕ → ℕ → Shown → ℕ → Type 0
TicksAll n offices (Ok (Some a)) m = ⊥
TicksAll n offices (Ok None) m = m + offices ≡ n
TicksAll n offices (Err BudgetSpent) m = (n < offices) × (m ≡ 0)
TicksAll n offices (Err (Bad t)) m = (t ≡ Impossible NoMemory) × (m < n) × (n ≤ m + offices)
TicksAll n offices (Err TooManyLetters) m = ⊥

-- each line, with what is left of the budget and the journal after it. No letter is sent in this stage: none can
-- come, and where all of them do, nothing happens
abbrev pub Plays : ℕ → Limits → List Exchange → Line → Shown → ℕ → List Exchange → Type 0
Plays n l xs Blank r m ys = (r ≡ Ok None) × (m ≡ n) × (ys ≡ xs)
Plays n l xs (Opening offices parcels) r m ys = (r ≡ Err (Bad OpenedAgain)) × (m ≡ n) × (ys ≡ xs)
Plays n l xs (CallAt o c) r m ys = Spends n xs (λ a zs. Answers (λ b. Called l xs o c b zs) a) r ys × (m ≡ n - 1)
Plays n l xs (Bytes o bytes) r m ys = Spends n xs (λ a zs. Answers (λ b. Came l xs o (vec_items bytes) b zs) a) r ys × (m ≡ n - 1)
Plays n l xs (Tick o) r m ys = Spends n xs (λ a zs. Nothing (AtOffice l.offices o) a × (zs ≡ xs)) r ys × (m ≡ n - 1)
Plays n l xs AllTick r m ys = TicksAll n l.offices r m × (ys ≡ xs)
Plays n l xs (Letter k) r m ys = Spends n xs (λ a zs. Nothing (Comes l.offices [] k) a × (zs ≡ xs)) r ys × (m ≡ n - 1)
Plays n l xs AllLetters r m ys = (r ≡ Ok None) × (m ≡ n) × (ys ≡ xs)
Plays n l xs AllLettersLastFirst r m ys = (r ≡ Ok None) × (m ≡ n) × (ys ≡ xs)

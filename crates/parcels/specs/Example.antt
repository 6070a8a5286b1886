-- One parcel's way, as calls at three offices with a limit of 8 parcels.
use Rattle.std.specs.Prelude.{◌≡◌, ℕ, List, [], ◌∷◌, ◌==◌}
use Rattle.parcels.specs.Book.{pick, Book}
use Rattle.parcels.specs.Calls.{Limits, thin, after, answered}
use Rattle.parcels.specs.declared.Slip.{Slip}
use Rattle.parcels.specs.declared.Call.{Call}
use Rattle.parcels.specs.declared.Call.TheVariants.{Accept, Send, TakeIn, HandOut, Here, Sums}
use Rattle.parcels.specs.declared.Reason.TheVariants.{NotHere, WrongSlip, OtherOffice}
use Rattle.parcels.specs.declared.Answer.{Answer}
use Rattle.parcels.specs.declared.Answer.TheVariants.{Refused, Number, Given, Two}

-- a call, and the office at which it is made
pub record Made : Type 0 where
  pub at : ℕ
  pub call : Call

-- what calls are answered, one after the other, by the books that the offices have
unfoldable pub answers : Limits → (ℕ → Book) → List Made → List Answer
answers l books [] = []
answers l books (x ∷ xs) =
    answered l x.at (books x.at) x.call ∷ answers l (λ o. pick (o == x.at) (after l o (books o) x.call) (books o)) xs

-- the parcel is sent on from office 0 to office 1
abbrev pub first_slip : Slip
first_slip = record { key = 0; step = 1; from = 0; to = 1; dest = 2; amount = 50 }

-- and from there to office 2
abbrev pub second_slip : Slip
second_slip = record { key = 0; step = 3; from = 1; to = 2; dest = 2; amount = 50 }

-- the calls
abbrev pub way : List Made
way =
    record { at = 0; call = Accept 2 50 }
    ∷ (record { at = 0; call = Send 0 1 }
    ∷ (record { at = 2; call = TakeIn first_slip }
    ∷ (record { at = 0; call = HandOut 0 }
    ∷ (record { at = 1; call = TakeIn first_slip }
    ∷ (record { at = 1; call = TakeIn first_slip }
    ∷ (record { at = 1; call = HandOut 0 }
    ∷ (record { at = 1; call = Send 0 2 }
    ∷ (record { at = 2; call = TakeIn second_slip }
    ∷ (record { at = 2; call = Here 0 }
    ∷ (record { at = 2; call = HandOut 0 }
    ∷ (record { at = 2; call = Here 0 }
    ∷ (record { at = 2; call = Sums }
    ∷ (record { at = 0; call = Sums } ∷ [])))))))))))))

-- what they are answered
abbrev pub way_answers : List Answer
way_answers =
    Number 0
    ∷ (Given first_slip
    ∷ (Refused (record { reason = WrongSlip; place = 0 })
    ∷ (Refused (record { reason = NotHere; place = 0 })
    ∷ (Number 2
    ∷ (Refused (record { reason = WrongSlip; place = 0 })
    ∷ (Refused (record { reason = OtherOffice; place = 0 })
    ∷ (Given second_slip
    ∷ (Number 2
    ∷ (Two 1 1
    ∷ (Number 50
    ∷ (Two 0 0
    ∷ (Two 50 0
    ∷ (Two 0 0 ∷ [])))))))))))))

-- these calls, from empty books on, are answered so
abbrev pub WayIsAnswered : Type 0
WayIsAnswered = answers (record { can = thin; offices = 3; parcels = 8 }) (λ o. []) way ≡ way_answers

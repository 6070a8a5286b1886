-- Answers and steps as text: the bytes that are written.
use Rattle.std.specs.Prelude.{ℕ, List, ◌++◌, codes, decimal}
use Rattle.parcels.specs.Numbers.{reason_number, kind_number}
use Rattle.parcels.specs.declared.Answer.{Answer}
use Rattle.parcels.specs.declared.Answer.TheVariants.{Refused, Number, Given, At, NothingHeard, Two}
use Rattle.parcels.specs.declared.Kind.{Kind}
use Rattle.parcels.specs.declared.Kind.TheVariants.{Accepted, SentOn, ComeIn, HandedOut}
use Rattle.parcels.specs.declared.Slip.{Slip}
use Rattle.parcels.specs.declared.Step.{Step}

-- what a step did
abbrev pub kind_text : Kind → List ℕ
kind_text Accepted = codes "accepted"
kind_text SentOn = codes "sent on"
kind_text ComeIn = codes "come in"
kind_text HandedOut = codes "handed out"

-- where a parcel is: its key and its last step
abbrev pub located_text : ℕ → Step → List ℕ
located_text key s =
    decimal key ++ (codes ": step " ++ (decimal s.number ++ (codes ", " ++ (kind_text s.kind ++ (codes " at " ++ decimal s.office)))))

-- a slip, from its key on
abbrev pub slip_text : Slip → List ℕ
slip_text s =
    decimal s.key ++ (codes ": " ++ (decimal s.step ++ (codes " " ++ (decimal s.from ++ (codes " " ++ (decimal s.to ++ (codes " " ++ (decimal s.dest ++ (codes " " ++ decimal s.amount)))))))))

-- each answer
abbrev pub answer_text : Answer → List ℕ
answer_text (Refused r) = codes "refused " ++ (decimal (reason_number r.reason) ++ (codes " at " ++ decimal r.place))
answer_text (Number n) = decimal n
answer_text (Given s) = codes "slip " ++ slip_text s
answer_text (At s) = codes "step " ++ (decimal s.number ++ (codes ", kind " ++ (decimal (kind_number s.kind) ++ (codes ", office " ++ decimal s.office))))
answer_text NothingHeard = codes "nothing heard"
answer_text (Two a b) = decimal a ++ (codes " " ++ decimal b)

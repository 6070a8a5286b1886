use Rattle.std.proofs.Common.{ℕ, List, ◌≡◌, ◌+◌, ◌-◌, ◌*◌, take, drop, length, ap, ◌∙◌, arith}
use Rattle.std.proofs.lemmas.List.{length-drop, length-take-le}
use Rattle.letters.specs.Envelope.{Letter, lent_for_letter, letter_in}
use Rattle.letters.proofs.Filled.{letter_back, envelope_there}
use Rattle.letters.proofs.write_letter.Goals as goal

pub returns-clause-written : goal.returns-clause-written
returns-clause-written c =
    let x : Letter = record { to = c.args.to; text = c.args.text.now } in
    let lent : List ℕ = c.args.lent.now in
    let start : ℕ = lent_for_letter * c.args.nth in
    let part : List ℕ = take (start + lent_for_letter - start) (drop start lent) in
    let room : length part ≡ lent_for_letter = omega (arith, length-drop start lent, length-take-le (start + lent_for_letter - start) (drop start lent) (omega (arith, length-drop start lent))) in
    let filled_length : length c.fill.new.envelope ≡ lent_for_letter = omega (arith, room, c.fill.auto.envelope) in
    ap letter_in (envelope_there lent c.fill.new.envelope c.args.nth (start + lent_for_letter - start) (omega arith) (omega arith) filled_length ∙ c.fill.ensures) ∙ letter_back x part room c.ranges.to.fits (omega arith)

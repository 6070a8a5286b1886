use Rattle.std.proofs.Common.{sym, subst, vec_items, vec_len}
use Rattle.letters.specs.Envelope.{Letter, letter_of, letters_in}
use Rattle.world.specs.Mail.{no_letter}
use Rattle.world.proofs.Happens.{is_there, gathered, heard_then, in_at, words_kept}
use Rattle.promises.specs.World.{In}
use Rattle.world.proofs.World.hear.Goals as goal

pub invariant_of-self-2 : goal.invariant_of-self-2
invariant_of-self-2 c =
    let w = c.args.self.now in
    let was : In (letter_of c.in-Some.envelope) (letters_in (vec_items w.mail.envelopes)) = subst (λ (x : Letter). In x (letters_in (vec_items w.mail.envelopes))) (sym c.in-Some.ensures.1) (in_at (letters_in (vec_items w.mail.envelopes)) c.args.number no_letter c.in-Some.ensures.0) in
    let went =
    heard_then (vec_len w.stations) w.parcels c.office-at.result (vec_items w.stations) c.index_mut.result.now c.hear-sent.new.self (vec_items w.mail.envelopes) (vec_items c.collect.new.self.envelopes) (vec_items w.journal)
    c.deref_mut.result.now c.hear-sent.new.lent c.hear-sent.result w.stations.ok.0 w.numbered w.lived (is_there _ _ c.in_ok-check_office.ensures) c.index_mut.ensures.value c.hear-sent.ensures.same_opening
    (gathered _ _ _ c.deref_mut.result.now _ _ _ _ _ c.in_ok-reserve.ensures.same c.deref.ensures.value c.hear-sent.auto.lent c.deref_mut.ensures.len c.collect.ensures) (letter_of c.in-Some.envelope) (sym c.office-at.ensures) was c.hear-sent.ensures.value in
    record { good = w.good; numbered = went.numbered; room = w.room; lived = went.lived }

pub returns-clause-kept : goal.returns-clause-kept
returns-clause-kept c = words_kept (vec_items c.args.self.now.stations) c.office-at.result c.index_mut.result.now c.hear-sent.new.self c.index_mut.ensures.value c.hear-sent.ensures.value.1.0

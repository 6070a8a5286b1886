use Rattle.std.proofs.Common.{◌∙◌, ◌++◌, ◌∷◌, [], List, ap, vec_items, vec_len}
use Rattle.world.specs.declared.Exchange.{Exchange}
use Rattle.world.proofs.Happens.{is_there, gathered, called_then}
use Rattle.world.proofs.World.bytes.Goals as goal

pub invariant_of-self-2 : goal.invariant_of-self-2
invariant_of-self-2 c =
    let w = c.args.self.now in
    let went =
    called_then (vec_len w.stations) w.parcels c.args.at (vec_items w.stations) c.index_mut.result.now c.ask-answer.new.self (vec_items w.mail.envelopes) (vec_items c.collect.new.self.envelopes) (vec_items w.journal)
    c.deref_mut.result.now c.ask-answer.new.lent c.ask-answer.result.letters w.stations.ok.0 w.numbered w.lived (is_there _ _ c.in_ok-check_office.ensures) c.index_mut.ensures.value c.ask-answer.ensures.same_opening
    (gathered _ _ _ c.deref_mut.result.now _ _ _ _ _ c.in_ok-reserve.ensures.same c.deref.ensures.value c.ask-answer.auto.lent c.deref_mut.ensures.len c.collect.ensures)
    (vec_items c.write_down.new.journal) c.args.row.now c.read_call-reading.result c.ask-answer.result.answer w.good c.read_call-reading.ensures.value c.read_call-reading.ensures.only
    (c.slip_is_known.ensures.0 c.if-not-slip_is_known.false) c.ask-answer.ensures.value
    (c.write_down.ensures ∙ ap (λ (xs : List Exchange). xs ++ (record { at = c.args.at; reading = c.read_call-reading.result; answer = c.ask-answer.result.answer } ∷ [])) c.in_ok-reserve-2.ensures.items) in
    record { good = w.good; numbered = went.0.numbered; room = w.room; lived = went.0.lived }

pub returns-clause-value : goal.returns-clause-value
returns-clause-value c =
    let w = c.args.self.now in
    let went =
    called_then (vec_len w.stations) w.parcels c.args.at (vec_items w.stations) c.index_mut.result.now c.ask-answer.new.self (vec_items w.mail.envelopes) (vec_items c.collect.new.self.envelopes) (vec_items w.journal)
    c.deref_mut.result.now c.ask-answer.new.lent c.ask-answer.result.letters w.stations.ok.0 w.numbered w.lived (is_there _ _ c.in_ok-check_office.ensures) c.index_mut.ensures.value c.ask-answer.ensures.same_opening
    (gathered _ _ _ c.deref_mut.result.now _ _ _ _ _ c.in_ok-reserve.ensures.same c.deref.ensures.value c.ask-answer.auto.lent c.deref_mut.ensures.len c.collect.ensures)
    (vec_items c.write_down.new.journal) c.args.row.now c.read_call-reading.result c.ask-answer.result.answer w.good c.read_call-reading.ensures.value c.read_call-reading.ensures.only
    (c.slip_is_known.ensures.0 c.if-not-slip_is_known.false) c.ask-answer.ensures.value
    (c.write_down.ensures ∙ ap (λ (xs : List Exchange). xs ++ (record { at = c.args.at; reading = c.read_call-reading.result; answer = c.ask-answer.result.answer } ∷ [])) c.in_ok-reserve-2.ensures.items) in
    (c.read_call-reading.result, c.read_call-reading.ensures.value, went.1)

use Rattle.std.proofs.Common.{List, Contains, get_or, take, take_all, sym, ap, ◌∙◌, subst, ⊎_elim}
use Rattle.std.proofs.lemmas.List.{map_more}
use Rattle.std.proofs.lemmas.List.Elements.{Contains-push_cases}
use Rattle.mkb_model.specs.declared.entry.Ticket.{Ticket}
use Rattle.kb_journal.specs.declared.replaying.Hand.{Hand}
use Rattle.kb_journal.specs.Replays.{tickets_of}
use Rattle.kb_journal.proofs.replaying.hand_with.Goals as goal

pub loop-hand-preserved : goal.loop-hand-preserved
loop-hand-preserved c = λ t m e.
    let hands = c.args.hands.now in
    let i = c.loop-hand.hand-index in
    let d = c.hand-item.result in
    let more = map_more (λ (h : Hand). h.ticket) hands i d c.loop-hand-test.true in
    ⊎_elim (λ p. c.loop-hand.invariant t p e) (λ q. c.if-hand-number.false (ap (λ (h : Hand). h.ticket.number) c.hand-item.is ∙ ap (λ (z : Ticket). z.number) q ∙ e))
    (Contains-push_cases (tickets_of (take i hands)) (get_or hands i d).ticket t (subst {A = List Ticket} (λ ts. Contains ts t) more m))

pub returns : goal.returns
returns c = λ t m e.
    let hands = c.args.hands.now in
    c.loop-hand.invariant t (subst {A = List Hand} (λ hs. Contains (tickets_of hs) t) (sym (take_all c.loop-hand.hand-index hands c.loop-hand-test.false)) m) e

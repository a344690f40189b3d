use Rattle.std.proofs.Common.{rules, ◌≡◌, ◌∙◌, sym, subst, arith, ℕ, None, Bool}
use Rattle.kb_text.specs.Machine.{best, kinds}
use Rattle.kb_text.specs.Problems.{Spells}
use Rattle.kb_syntax.specs.Refused.{IsRefusal}
use Rattle.kb_syntax.specs.Looks.{look_side}
use Rattle.kb_syntax.specs.Reader.{IsNextReader, TellsLast, place_look}
use Rattle.kb_syntax.specs.Sides.{token_at, where_so}
use Rattle.kb_text.specs.declared.lexer.Form.TheVariants.{End}
use Rattle.kb_syntax.proofs.Reached.{start_reached, short_side, small_depth, name_of, shown_fault, bad_fault, stepped, finished, is_ahead}
use Rattle.kb_syntax.proofs.ShownLaws.{shown-known}
use Rattle.kb_syntax.proofs.LastLaws.{told_start, told_next}
use Rattle.kb_syntax.proofs.parse.read_tokens.Goals as goal

pub loop-kind-init : goal.loop-kind-init
loop-kind-init c = record {
  reached = start_reached c.args.text.now c.args.reader.now c.requires.utf8 c.requires.notes c.requires.place;
  told = told_start c.args.reader.now.notes.variables.declared (place_look c.args.reader.now.place) c.requires.place;
}

pub shown-requires-clause-side : goal.shown-requires-clause-side
shown-requires-clause-side c = short_side c.args.text.now c.loop-kind.at c.loop-kind.number c.loop-kind.reader c.requires.short c.loop-kind.invariant.reached

pub returns-in-Some-clause-refused : goal.returns-in-Some-clause-refused
returns-in-Some-clause-refused c =
    let l = c.loop-kind in
    let text = c.args.text.now in
    let found = c.next_token-found.result in
    let h = l.invariant.reached in
    let best_is : best None kinds h.front (token_at found.form (name_of text found)) ≡ c.shown.result = sym (c.shown.ensures ∙ shown-known l.reader.notes l.reader.place h.front found.form (name_of text found) h.stands h.fine) in
    shown_fault text l.at l.number l.reader found c.requires.short c.requires.utf8 h c.next_token-found.ensures.found c.in-Some.kind c.in-Some.back (best_is ∙ c.in-Some.is) c.refusal.result
    (subst (λ (n : ℕ). IsRefusal text c.in-Some.kind n c.refusal.result) c.saturating_sub.ensures c.refusal.ensures)

pub problem-requires : goal.problem-requires
problem-requires c =
    let l = c.loop-kind in
    let text = c.args.text.now in
    let found = c.next_token-found.result in
    let h = l.invariant.reached in
    let quiet : best None kinds h.front (token_at found.form (name_of text found)) ≡ None = sym (c.shown.ensures ∙ shown-known l.reader.notes l.reader.place h.front found.form (name_of text found) h.stands h.fine) ∙ c.in_default.is in
    let end : found.form ≡ End = search rules in
    (finished text l.at l.number l.reader found c.requires.short c.requires.utf8 h c.next_token-found.ensures.found end quiet).noted

pub returns-then-eq-clause-spelled : goal.returns-then-eq-clause-spelled
returns-then-eq-clause-spelled c =
    let l = c.loop-kind in
    let text = c.args.text.now in
    let found = c.next_token-found.result in
    let h = l.invariant.reached in
    let quiet : best None kinds h.front (token_at found.form (name_of text found)) ≡ None = sym (c.shown.ensures ∙ shown-known l.reader.notes l.reader.place h.front found.form (name_of text found) h.stands h.fine) ∙ c.in_default.is in
    let end : found.form ≡ End = search rules in
    subst (Spells text) (sym c.in_ok-problem.ensures) (finished text l.at l.number l.reader found c.requires.short c.requires.utf8 h c.next_token-found.ensures.found end quiet).spelled

pub next-requires-clause-depth : goal.next-requires-clause-depth
next-requires-clause-depth c =
    let l = c.loop-kind in
    let small = small_depth c.args.text.now l.at l.number l.reader c.requires.short l.invariant.reached in
    omega (arith, small)

pub returns-then-not-goes_on-clause-refused : goal.returns-then-not-goes_on-clause-refused
returns-then-not-goes_on-clause-refused c =
    let l = c.loop-kind in
    let text = c.args.text.now in
    let found = c.next_token-found.result in
    let h = l.invariant.reached in
    let quiet : best None kinds h.front (token_at found.form (name_of text found)) ≡ None = sym (c.shown.ensures ∙ shown-known l.reader.notes l.reader.place h.front found.form (name_of text found) h.stands h.fine) ∙ c.in_default.is in
    let more : found.form ≡ End → ⊥ = search rules in
    let lost = subst (λ (b : Bool). IsNextReader l.reader (token_at found.form (name_of text found)) (where_so b c.next.new.self)) c.if-not-goes_on.true c.in_ok-goes_on.ensures in
    bad_fault text l.at l.number l.reader found c.requires.short c.requires.utf8 h c.next_token-found.ensures.found more quiet lost c.refusal-then-not-goes_on.result c.refusal-then-not-goes_on.ensures

pub loop-kind-preserved : goal.loop-kind-preserved
loop-kind-preserved c =
    let l = c.loop-kind in
    let text = c.args.text.now in
    let found = c.next_token-found.result in
    let h = l.invariant.reached in
    let quiet : best None kinds h.front (token_at found.form (name_of text found)) ≡ None = sym (c.shown.ensures ∙ shown-known l.reader.notes l.reader.place h.front found.form (name_of text found) h.stands h.fine) ∙ c.in_default.is in
    let more : found.form ≡ End → ⊥ = search rules in
    let next = subst (λ (b : Bool). IsNextReader l.reader (token_at found.form (name_of text found)) (where_so b c.next.new.self)) c.if-not-goes_on.false c.in_ok-goes_on.ensures in
    record {
      reached = stepped text l.at l.number l.reader c.next.new.self found c.requires.utf8 h c.next_token-found.ensures.found more c.next_token-found.ensures.within (is_ahead l.at found more c.next_token-found.ensures.ahead) (c.next_token-found.ensures.text c.requires.utf8 h.boundary) quiet next;
      told = subst (TellsLast c.next.new.self.notes.variables.declared (look_side (place_look c.next.new.self.place))) (sym c.is_some-last_is_variable.ensures) (told_next l.reader c.next.new.self (token_at found.form (name_of text found)) c.number-variable.result c.number-variable.ensures next);
    }

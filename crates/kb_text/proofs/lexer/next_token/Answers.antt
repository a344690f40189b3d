use Rattle.std.proofs.Common.{◌∙◌, ◌+◌, ℕ, sym, subst, arith}
use Rattle.std.specs.Str.{IsCharBoundary}
use Rattle.kb_text.proofs.Runs.{name_tokens, mark_length_some, after_white}
use Rattle.kb_text.proofs.Boundaries.{name_boundary, name_identifier, mark_end, white_end}
use Rattle.kb_text.proofs.lexer.next_token.Goals as goal

pub returns-in-Letter-clause-found : goal.returns-in-Letter-clause-found
returns-in-Letter-clause-found c = c.loop-at.invariant.same ∙ name_tokens c.args.bytes.now c.loop-at.at c.name_end.result c.name_end.ensures

pub returns-in-Letter-clause-ahead : goal.returns-in-Letter-clause-ahead
returns-in-Letter-clause-ahead c = omega (arith, c.name_end.ensures.some, c.loop-at.invariant.behind)

pub returns-in-Mark-clause-ahead : goal.returns-in-Mark-clause-ahead
returns-in-Mark-clause-ahead c = omega (arith, c.mark_length.ensures, mark_length_some c.in-Mark.mark, c.loop-at.invariant.behind)

pub returns-in-Letter-clause-text : goal.returns-in-Letter-clause-text
returns-in-Letter-clause-text c u b = record {
  boundary = name_boundary c.args.bytes.now c.loop-at.at c.name_end.result c.name_end.ensures;
  identifier = λ _. name_identifier c.args.bytes.now c.loop-at.at c.name_end.result u (c.loop-at.invariant.boundary u b) c.name_end.ensures;
}

pub returns-in-Mark-clause-text : goal.returns-in-Mark-clause-text
returns-in-Mark-clause-text c u b =
    let length_is = c.mark_length.ensures in record {
      boundary = subst (λ (n : ℕ). IsCharBoundary c.args.bytes.now (c.loop-at.at + n)) (sym length_is) (mark_end c.args.bytes.now c.loop-at.at c.in-Mark.mark u c.in-Mark.ensures.fits c.in-Mark.ensures.ascii);
      identifier = λ e. absurd (cc);
    }

pub loop-at-preserved : goal.loop-at-preserved
loop-at-preserved c = record {
  within = omega (arith, c.loop-at-test.true);
  same = c.loop-at.invariant.same ∙ after_white c.args.bytes.now c.loop-at.at c.loop-at-test.true (sym c.in-White.ensures.start);
  behind = omega (arith, c.loop-at.invariant.behind);
  boundary = λ u b. white_end c.args.bytes.now c.loop-at.at u c.loop-at-test.true c.in-White.ensures.ascii;
}

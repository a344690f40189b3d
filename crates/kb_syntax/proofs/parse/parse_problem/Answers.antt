use Rattle.std.proofs.Common.{sym, subst}
use Rattle.std.specs.Str.{IsValidUpTo}
use Rattle.kb_text.specs.Refusals.{too_long, not_utf8}
use Rattle.kb_syntax.proofs.parse.parse_problem.Goals as goal

pub returns-then-bytes-gt-MAX_PROBLEM_BYTES-clause-refused :
    goal.returns-then-bytes-gt-MAX_PROBLEM_BYTES-clause-refused
returns-then-bytes-gt-MAX_PROBLEM_BYTES-clause-refused c = too_long c.if-bytes-gt-MAX_PROBLEM_BYTES.true

pub returns-in-Err-clause-refused : goal.returns-in-Err-clause-refused
returns-in-Err-clause-refused c = not_utf8 c.if-bytes-gt-MAX_PROBLEM_BYTES.false (subst (IsValidUpTo c.args.bytes.now) (sym c.valid_up_to.ensures) c.in-Err.ensures.cases.1)

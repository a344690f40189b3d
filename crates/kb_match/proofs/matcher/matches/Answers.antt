use Rattle.std.proofs.Common.{ap}
use Rattle.kb_term.specs.View.{tree_of}
use Rattle.kb_match.specs.Binding.{bindings_of_list}
use Rattle.std.proofs.lemmas.Bool.{false≢true}
use Rattle.kb_match.proofs.FittingLaws.{fits_from_match}
use Rattle.kb_match.proofs.Extensions.{matches_from}
use Rattle.kb_match.proofs.matcher.matches.Goals as goal

pub returns-then-not-fits : goal.returns-then-not-fits
returns-then-not-fits c = ((λ e. absurd (false≢true e)), λ m. c.if-not-fits.ensures.1 (fits_from_match (tree_of c.args.pattern.now) (tree_of c.args.subject.now) m))

pub returns : goal.returns
returns c = matches_from c.extend.result (tree_of c.args.pattern.now) (tree_of c.args.subject.now) (bindings_of_list c.new.result.items) (bindings_of_list c.extend.new.bindings.items) (ap bindings_of_list c.new.ensures.items) c.extend.ensures.matched c.extend.ensures.clash

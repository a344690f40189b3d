use Rattle.std.proofs.Common.{arith, ◌≡◌, ◌+◌, ◌++◌, ◌∷◌, [], List, length, ap, sym, ◌∙◌, subst}
use Rattle.std.proofs.lemmas.List.{length_push}
use Rattle.kb_journal.specs.declared.entry_line.EntryLine.{EntryLine}
use Rattle.kb_journal.specs.declared.entry_line.EntryLine.TheVariants.{Halt}
use Rattle.kb_journal.specs.EntryLines.{IsEntryLine}
use Rattle.kb_journal.specs.JournalSections.{entry_body}
use Rattle.kb_report.proofs.SectionLaws.{AreReadItems, no_items, item_pushed, items_bad, items_whole}
use Rattle.kb_journal.proofs.sections.read_entries.Goals as goal

pub loop-k-init : goal.loop-k-init
loop-k-init c = record {
  read = subst {A = List EntryLine} (λ es. AreReadItems IsEntryLine (λ k. entry_body) c.args.text.now es 0) (sym c.new-entries.ensures.items) (no_items IsEntryLine (λ k. entry_body) c.args.text.now);
  count = ap length c.new-entries.ensures.items;
  bytes = omega arith;
}

pub split_at-requires : goal.split_at-requires
split_at-requires c = c.loop-k.invariant.read.within

pub loop-k-preserved : goal.loop-k-preserved
loop-k-preserved c =
    let items = c.loop-k.entries.items in
    let news = c.push.new.self.items in
    let x = c.in-Some.entry in
    let more : news ≡ items ++ x ∷ [] = c.in_ok-push.ensures.items in
    let long : length news ≡ length items + 1 = ap length more ∙ length_push items x in
    let count = c.loop-k.invariant.count in
    let bytes = c.loop-k.invariant.bytes in
    let size = rw c.in-Some.is at c.in_ok-entry.ensures.size in
    record {
      read = item_pushed IsEntryLine (λ k. entry_body) c.args.text.now c.split_at.result.1.now items news x c.loop-k.at c.in-Some.size (length items + 1) c.loop-k.invariant.read c.split_at.ensures.back (λ i. length items + 1) (rw c.in-Some.is at c.in_ok-entry.ensures.read) size.1 more;
      count = omega arith;
      bytes = (let one = size.0 in omega arith);
    }

pub returns-in_default-clause-fault : goal.returns-in_default-clause-fault
returns-in_default-clause-fault c =
    let items = c.loop-k.entries.items in
    let count = c.loop-k.invariant.count in
    items_bad IsEntryLine (λ k. entry_body) c.args.text.now c.split_at.result.1.now items c.loop-k.at c.args.count c.args.first (c.args.first + c.loop-k.k) Halt tt c.loop-k.invariant.read c.split_at.ensures.back (omega arith) (omega arith) (rw c.in_default.is at c.in_ok-entry.ensures.read)

pub returns-clause-read : goal.returns-clause-read
returns-clause-read c =
    let count = c.loop-k.invariant.count in
    items_whole IsEntryLine (λ k. entry_body) c.args.text.now c.loop-k.entries.items c.loop-k.at c.args.count c.loop-k.invariant.read (omega arith)

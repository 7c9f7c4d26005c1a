use Rattle.serde_json.specs.View.{view}
use Rattle.pc_desk_table.specs.Sheets.{sheet_data, sheet_json}
use Rattle.pc_desk_table.proofs.JsonBack.{text_is, text_reads}
use Rattle.pc_desk_table.proofs.Shallow.{sheet_plain}
use Rattle.pc_desk_table.proofs.sheet_texts.sheet_json.Goals as goal

pub returns-clause-text : goal.returns-clause-text
unfolding sheet_json
returns-clause-text c =
    text_is c.in_ok-text.text.items c.push.new.self.items (view c.in_ok-data.data) (sheet_data c.args.sheet.now) c.in_ok-data.ensures (sheet_plain c.args.sheet.now) c.in_ok-push.ensures.items
    c.in_ok-text.ensures.text

pub returns-clause-reads_back : goal.returns-clause-reads_back
returns-clause-reads_back c =
    text_reads c.in_ok-text.text.items c.push.new.self.items (view c.in_ok-data.data) (sheet_data c.args.sheet.now) c.in_ok-data.ensures (sheet_plain c.args.sheet.now) c.in_ok-push.ensures.items
    c.in_ok-text.ensures.compact c.in_ok-text.ensures.order c.in_ok-text.ensures.reads_back

use Rattle.std.proofs.Common.{◌∙◌, map}
use Rattle.std.proofs.lemmas.Result.{IfOk-weaker}
use Rattle.mintcx_chain.specs.Turning.{turned}
use Rattle.mintcx_csv.specs.Corners.{member_fields, member_record, member_records}
use Rattle.mintcx_csv.specs.Records.{text_so_far}
use Rattle.mintcx_csv.proofs.TableLaws.{is_table, made_of, whole_table}
use Rattle.mintcx_csv.proofs.corners.ring_csv.Goals as goal

pub returns : goal.returns
returns c =
    let ts = c.args.systems.now in
    let n = c.args.ring.now.first in
    let chain = c.args.ring.now.members.now in
    let text = whole_table (text_so_far c.no_records-records.result) (text_so_far c.put_member_head.new.records) (text_so_far c.put_members.new.records) member_fields
    (map (member_record ts) (turned n chain)) c.no_records-records.ensures.text c.in_ok-put_member_head.ensures.text c.in_ok-put_members.ensures.text in
    IfOk-weaker c.text_of.result _ _
    (λ found e. is_table (member_records ts chain n) found (e ∙ text) (tt, made_of (member_record ts) (λ m. tt) (turned n chain)))
    c.text_of.ensures

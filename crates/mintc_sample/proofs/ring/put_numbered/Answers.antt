use Rattle.std.proofs.Common.{◌≡◌, ◌++◌, OnOk, decimal, rules}
use Rattle.mintc_sample.proofs.SampleLaws.{put_number}
use Rattle.mintc_sample.proofs.ring.put_numbered.Goals as goal

pub returns : goal.returns
returns c =
    let number : OnOk c.number.result (c.number.new.self ≡ c.put.new.self ++ decimal c.args.number) = search rules in
    put_number c.number.result c.args.lines.now c.put.new.self c.number.new.self c.args.word.now c.args.number c.in_ok-put.ensures.ok number

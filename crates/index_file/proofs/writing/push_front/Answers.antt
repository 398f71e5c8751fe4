use Rattle.index_file.proofs.PartLemmas.{front_joined}
use Rattle.index_file.proofs.writing.push_front.Goals as goal

pub returns : goal.returns
returns c =
    front_joined c.args.bytes.now.items c.extend_from_slice.new.self.items c.push_u32.new.bytes.items c.push_u32-2.new.bytes.items c.push_u32-3.new.bytes.items
    c.push_u32-4.new.bytes.items c.push_u32-5.new.bytes.items c.args.rows c.args.front.bins c.args.front.bitmaps c.args.front.text
    c.in_ok-extend_from_slice.ensures.items c.in_ok-push_u32.ensures c.in_ok-push_u32-2.ensures c.in_ok-push_u32-3.ensures c.in_ok-push_u32-4.ensures c.in_ok-push_u32-5.ensures

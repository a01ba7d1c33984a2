use Rattle.making.proofs.MakeLaws.{made_frame}
use Rattle.making.proofs.put_frame.Goals as goal

pub returns : goal.returns
returns c =
    let given = c.requires in
    made_frame _ c.symbols_of-m.result c.parity_of-v.result c.units_of-u.result _ _ _ given.1 given.2
    c.symbols_of-m.ensures c.parity_of-v.ensures c.units_of-u.ensures c.put_bytes.ensures

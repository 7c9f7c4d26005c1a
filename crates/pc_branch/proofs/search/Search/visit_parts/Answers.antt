-- The node's box and multipliers, as the code read them, are those of its place in the tree.
use Rattle.pc_branch.proofs.Parting.{gains_fit, place_read, parts_read}
use Rattle.pc_branch.proofs.search.Search.visit_parts.Goals as goal

pub visit_less-requires-clause-gains : goal.visit_less-requires-clause-gains
visit_less-requires-clause-gains c = gains_fit c.args.p.now c.requires.program c.requires.width

pub visit_less-requires-clause-inside : goal.visit_less-requires-clause-inside
visit_less-requires-clause-inside c = (
    place_read c.args.p.now c.args.self.now c.args.hand c.args.cell c.args.at c.in_ok-place.place.floor c.in_ok-place.place.cap c.as_slice.result.now c.index-as_slice-hand.result
    c.in_ok-place.ensures.floor c.in_ok-place.ensures.cap c.index-as_slice-hand.is c.as_slice.ensures c.requires.program c.requires.width c.requires.going c.requires.parted
    ).is_box

pub visit_less-requires-clause-cell : goal.visit_less-requires-clause-cell
visit_less-requires-clause-cell c = (
    place_read c.args.p.now c.args.self.now c.args.hand c.args.cell c.args.at c.in_ok-place.place.floor c.in_ok-place.place.cap c.as_slice.result.now c.index-as_slice-hand.result
    c.in_ok-place.ensures.floor c.in_ok-place.ensures.cap c.index-as_slice-hand.is c.as_slice.ensures c.requires.program c.requires.width c.requires.going c.requires.parted
    ).inside

pub visit_less-requires-clause-low : goal.visit_less-requires-clause-low
visit_less-requires-clause-low c = (
    place_read c.args.p.now c.args.self.now c.args.hand c.args.cell c.args.at c.in_ok-place.place.floor c.in_ok-place.place.cap c.as_slice.result.now c.index-as_slice-hand.result
    c.in_ok-place.ensures.floor c.in_ok-place.ensures.cap c.index-as_slice-hand.is c.as_slice.ensures c.requires.program c.requires.width c.requires.going c.requires.parted
    ).low

pub visit_less-requires-clause-high : goal.visit_less-requires-clause-high
visit_less-requires-clause-high c = (
    place_read c.args.p.now c.args.self.now c.args.hand c.args.cell c.args.at c.in_ok-place.place.floor c.in_ok-place.place.cap c.as_slice.result.now c.index-as_slice-hand.result
    c.in_ok-place.ensures.floor c.in_ok-place.ensures.cap c.index-as_slice-hand.is c.as_slice.ensures c.requires.program c.requires.width c.requires.going c.requires.parted
    ).high

pub visit_less-requires-clause-fits : goal.visit_less-requires-clause-fits
visit_less-requires-clause-fits c = (
    place_read c.args.p.now c.args.self.now c.args.hand c.args.cell c.args.at c.in_ok-place.place.floor c.in_ok-place.place.cap c.as_slice.result.now c.index-as_slice-hand.result
    c.in_ok-place.ensures.floor c.in_ok-place.ensures.cap c.index-as_slice-hand.is c.as_slice.ensures c.requires.program c.requires.width c.requires.going c.requires.parted
    ).fits

pub visit_more-requires-clause-gains : goal.visit_more-requires-clause-gains
visit_more-requires-clause-gains c = gains_fit c.args.p.now c.requires.program c.requires.width

pub visit_more-requires-clause-inside : goal.visit_more-requires-clause-inside
visit_more-requires-clause-inside c = (
    place_read c.args.p.now c.args.self.now c.args.hand c.args.cell c.args.at c.in_ok-place.place.floor c.in_ok-place.place.cap c.as_slice.result.now c.index-as_slice-hand.result
    c.in_ok-place.ensures.floor c.in_ok-place.ensures.cap c.index-as_slice-hand.is c.as_slice.ensures c.requires.program c.requires.width c.requires.going c.requires.parted
    ).is_box

pub visit_more-requires-clause-cell : goal.visit_more-requires-clause-cell
visit_more-requires-clause-cell c = (
    place_read c.args.p.now c.args.self.now c.args.hand c.args.cell c.args.at c.in_ok-place.place.floor c.in_ok-place.place.cap c.as_slice.result.now c.index-as_slice-hand.result
    c.in_ok-place.ensures.floor c.in_ok-place.ensures.cap c.index-as_slice-hand.is c.as_slice.ensures c.requires.program c.requires.width c.requires.going c.requires.parted
    ).inside

pub visit_more-requires-clause-low : goal.visit_more-requires-clause-low
visit_more-requires-clause-low c = (
    place_read c.args.p.now c.args.self.now c.args.hand c.args.cell c.args.at c.in_ok-place.place.floor c.in_ok-place.place.cap c.as_slice.result.now c.index-as_slice-hand.result
    c.in_ok-place.ensures.floor c.in_ok-place.ensures.cap c.index-as_slice-hand.is c.as_slice.ensures c.requires.program c.requires.width c.requires.going c.requires.parted
    ).low

pub visit_more-requires-clause-high : goal.visit_more-requires-clause-high
visit_more-requires-clause-high c = (
    place_read c.args.p.now c.args.self.now c.args.hand c.args.cell c.args.at c.in_ok-place.place.floor c.in_ok-place.place.cap c.as_slice.result.now c.index-as_slice-hand.result
    c.in_ok-place.ensures.floor c.in_ok-place.ensures.cap c.index-as_slice-hand.is c.as_slice.ensures c.requires.program c.requires.width c.requires.going c.requires.parted
    ).high

pub visit_more-requires-clause-fits : goal.visit_more-requires-clause-fits
visit_more-requires-clause-fits c = (
    place_read c.args.p.now c.args.self.now c.args.hand c.args.cell c.args.at c.in_ok-place.place.floor c.in_ok-place.place.cap c.as_slice.result.now c.index-as_slice-hand.result
    c.in_ok-place.ensures.floor c.in_ok-place.ensures.cap c.index-as_slice-hand.is c.as_slice.ensures c.requires.program c.requires.width c.requires.going c.requires.parted
    ).fits

pub returns : goal.returns
returns c =
    parts_read c.args.p.now c.args.self.now c.args.hand c.args.cell c.args.at c.in_ok-place.place.floor c.in_ok-place.place.cap c.as_slice.result.now c.index-as_slice-hand.result
    c.in_ok-place.ensures.floor c.in_ok-place.ensures.cap c.index-as_slice-hand.is c.as_slice.ensures c.requires.program c.requires.width c.requires.going c.requires.parted
    c.in_ok-less.less c.in_ok-more.more c.in_ok-less.ensures.visited c.in_ok-less.ensures.counts c.in_ok-more.ensures.visited c.in_ok-more.ensures.counts

-- `lay` meets its contract: the sizes of the classes, and the sums of their words.
use Rattle.lattice.specs.Shape.{cells_of}
use Rattle.lattice.specs.Class.{layout_of}
use Rattle.lattice.specs.Sizes.{HoldsSizes}
use Rattle.lattice.proofs.theory.CapacityGiven.{classes_given}
use Rattle.levels.proofs.words.Offsets.{sizes_small, words_laid, digits_laid}
use Rattle.levels.proofs.words.WordTable.lay.Goals.{After-class_sizes}
use Rattle.levels.proofs.words.WordTable.lay.Goals as goal

sized : (c : After-class_sizes)
    → let s = c.args.shape in HoldsSizes (layout_of s) c.class_sizes.new.sizes (cells_of s)
sized c = c.class_sizes.ensures.holds_sizes c.requires

pub word_offsets-requires : goal.word_offsets-requires
word_offsets-requires c =
    record {
      classes_le_max_classes = rw c.classes.ensures (classes_given _);
      by_index = sizes_small _ c.requires _ (sized (goal.at.word_offsets-requires c).After-class_sizes);
    }

pub returns : goal.returns
returns c =
    let a = c.requires in
    let given = c.classes.ensures in
    record {
      laid = words_laid _ a _ (sized (goal.at.returns c).After-class_sizes) _ given _ c.word_offsets.ensures.by_index_2;
      value = digits_laid _ a _ (sized (goal.at.returns c).After-class_sizes) _ given _ c.word_offsets.ensures.value.0;
    }

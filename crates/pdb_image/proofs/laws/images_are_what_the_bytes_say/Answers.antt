use Rattle.pdb_image.proofs.ImageStages.{image_is, is_image_of}
use Rattle.pdb_image.proofs.ImageErrors.{image_refused}
use Rattle.pdb_image.proofs.laws.images_are_what_the_bytes_say.Goals as goal

pub returns-clause-says : goal.returns-clause-says
returns-clause-says c b x = (image_is b x, is_image_of b x)

pub returns-clause-refused : goal.returns-clause-refused
returns-clause-refused c b e = image_refused b e

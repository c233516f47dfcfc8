pub mod LentWalks
pub mod LentRows
pub mod Chains
pub mod InTurn
pub mod LeftCount
pub mod MessageBack
pub mod ObjectsBack
pub mod LeftReceived
pub mod LostIndexes
pub mod VerifyLaws
pub mod ReconstructLaws
mod RoomsBack
mod UpdatedCode
mod UpdatedRooms
pub mod BlocksBack
pub mod BlocksFail
pub mod FilesBack

pub mod ShownWalks
